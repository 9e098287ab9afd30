use Rattle.ocm_journal_image.proofs.ImageRead.{image_read}
use Rattle.ocm_journal_image.proofs.laws.an_image_is_read.Goals as goal

pub returns : goal.returns
returns c = image_read
