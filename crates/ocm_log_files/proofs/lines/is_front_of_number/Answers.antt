use Rattle.ocm_log_files.proofs.Fronts.{empty_decides, some_decides}
use Rattle.ocm_log_files.proofs.lines.is_front_of_number.Goals as goal

pub returns-then-is_empty : goal.returns-then-is_empty
returns-then-is_empty c = empty_decides _ _ c.is_empty.ensures c.if-is_empty.ensures

pub returns-else-is_empty : goal.returns-else-is_empty
returns-else-is_empty c = some_decides _ _ c.if-is_empty.ensures c.is_number.ensures
