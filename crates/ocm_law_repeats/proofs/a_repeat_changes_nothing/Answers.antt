use Rattle.ocm_law_repeats.proofs.Repeated.{repeat-once}
use Rattle.ocm_law_repeats.proofs.a_repeat_changes_nothing.Goals as goal

pub returns : goal.returns
returns c = λ host g ask legal repeated h. repeat-once host g ask legal repeated h
