use Rattle.ocm_log_files.proofs.Fronts.{front_decides}
use Rattle.ocm_log_files.proofs.lines.is_front.Goals as goal

pub returns : goal.returns
returns c = front_decides _ _ _ c.starts_with.ensures.value
