use Rattle.ocm_law_runs.proofs.Requests.{promised}
use Rattle.ocm_law_runs.proofs.scripts.a_script_keeps_what_is_promised.Goals as goal

pub returns : goal.returns
returns c = promised
