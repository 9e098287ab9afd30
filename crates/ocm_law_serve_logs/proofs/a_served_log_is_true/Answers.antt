use Rattle.ocm_law_serve_logs.proofs.Running.{log-front-true, whole-log-true}
use Rattle.ocm_law_serve_logs.proofs.a_served_log_is_true.Goals as goal

pub returns-clause-cut : goal.returns-clause-cut
returns-clause-cut g c = λ plan area limit before after calls own run. log-front-true g.D.Disk plan area limit before after calls own _ run

pub returns-clause-whole : goal.returns-clause-whole
returns-clause-whole g c = λ plan area limit before after calls own run. whole-log-true g.D.Disk plan area limit before after calls own _ run
