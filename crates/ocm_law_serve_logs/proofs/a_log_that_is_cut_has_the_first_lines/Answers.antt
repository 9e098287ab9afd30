use Rattle.ocm_law_serve_logs.proofs.Running.{cut-back}
use Rattle.ocm_law_serve_logs.proofs.a_log_that_is_cut_has_the_first_lines.Goals as goal

pub returns : goal.returns
returns c = cut-back
