use Rattle.ocm_law_serve.proofs.Serving.{served-runs-keep}
use Rattle.ocm_law_serve.proofs.running.served_runs_keep_what_is_promised.Goals as goal

pub returns : goal.returns
returns g c = served-runs-keep g.D.Disk g.C.Conn.sides
