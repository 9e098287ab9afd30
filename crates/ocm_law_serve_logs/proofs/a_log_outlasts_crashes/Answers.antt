use Rattle.ocm_law_serve_logs.proofs.Running.{crash-true}
use Rattle.ocm_law_serve_logs.proofs.a_log_outlasts_crashes.Goals as goal

pub returns : goal.returns
returns g c = λ plan area limit before after calls own run. crash-true g.D.Disk plan area limit before after calls own _ run
