use Rattle.ocm_entry_bytes.proofs.Lengths.{spelled_len}
use Rattle.ocm_entry_bytes.proofs.laws.spellings_have_lengths.Goals as goal

pub returns : goal.returns
returns c = spelled_len
