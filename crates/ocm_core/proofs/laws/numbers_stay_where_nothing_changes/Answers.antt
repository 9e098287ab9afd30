use Rattle.ocm_core.proofs.Numbers.{numbered-same}
use Rattle.ocm_core.proofs.laws.numbers_stay_where_nothing_changes.Goals as goal

pub returns : goal.returns
returns c = λ lists g e numbered same. numbered-same lists g e numbered same
