use Rattle.std.specs.Prelude.{[], ⊤}
use Rattle.ocm_log_files.specs.Fronts.{IsMethod}
use Rattle.ocm_log_files.proofs.Fronts.{method_lacks, none_follows, word_then_all}
use Rattle.ocm_log_files.proofs.lines.is_front_of_read.Goals as goal

pub returns-in-Some : goal.returns-in-Some
returns-in-Some c = word_then_all IsMethod (λ _. ⊤) method_lacks _ _ _ c.in-Some.ensures.1 c.in-Some.ensures.0 _ c.is_method.ensures ([], tt)

pub returns-in-None : goal.returns-in-None
returns-in-None c = none_follows IsMethod (λ _. ⊤) [] tt _ c.in-None.ensures _ c.is_front_of_method.ensures
