use Rattle.ocm_log_files.proofs.Fronts.{no_text, read_decides}
use Rattle.ocm_log_files.proofs.lines.is_number.Goals as goal

pub returns-in-Ok : goal.returns-in-Ok
returns-in-Ok c = read_decides _ _ _ _ c.is_some.ensures c.in-Ok.ensures.cases.0 c.decimal_read.ensures.printed

pub returns-in-Err : goal.returns-in-Err
returns-in-Err c = no_text _ c.in-Err.ensures.cases.0
