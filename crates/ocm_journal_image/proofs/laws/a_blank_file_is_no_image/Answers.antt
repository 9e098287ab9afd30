use Rattle.ocm_journal_image.proofs.OneImage.{blank_is_none}
use Rattle.ocm_journal_image.proofs.laws.a_blank_file_is_no_image.Goals as goal

pub returns : goal.returns
returns c = blank_is_none
