use Rattle.ocm_journal.proofs.BothWays.{opened_is}
use Rattle.ocm_journal.proofs.laws.what_is_opened_is_blank_or_an_image.Goals as goal

pub returns : goal.returns
returns c = opened_is
