use Rattle.ocm_entry_bytes.proofs.Whole.{has_spelling-fits}
use Rattle.ocm_entry_bytes.proofs.laws.spelled_asks_have_spellings.Goals as goal

pub returns : goal.returns
returns c = λ ask bytes spells. has_spelling-fits ask spells.fits
