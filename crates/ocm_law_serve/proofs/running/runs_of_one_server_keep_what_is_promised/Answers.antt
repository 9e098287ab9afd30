use Rattle.ocm_law_serve.proofs.InARow.{runs-keep}
use Rattle.ocm_law_serve.proofs.running.runs_of_one_server_keep_what_is_promised.Goals as goal

pub returns : goal.returns
returns g c = runs-keep _
