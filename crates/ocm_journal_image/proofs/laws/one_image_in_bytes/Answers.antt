use Rattle.ocm_journal_image.proofs.OneImage.{one_image}
use Rattle.ocm_journal_image.proofs.laws.one_image_in_bytes.Goals as goal

pub returns : goal.returns
returns c = one_image
