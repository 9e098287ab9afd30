use Rattle.ocm_journal.proofs.BothWays.{image_opened, image_not_blank}
use Rattle.ocm_journal.proofs.laws.an_image_is_opened.Goals as goal

pub returns : goal.returns
returns c = record { opens = image_opened; not_blank = image_not_blank }
