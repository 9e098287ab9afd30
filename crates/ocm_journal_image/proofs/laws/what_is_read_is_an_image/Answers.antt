use Rattle.ocm_journal_image.proofs.ReadBack.{image_stands}
use Rattle.ocm_journal_image.proofs.laws.what_is_read_is_an_image.Goals as goal

pub returns : goal.returns
returns c = λ bytes read are is. let s = image_stands bytes read are is in (s.image, s.selector, s.items)
