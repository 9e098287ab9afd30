use Rattle.ocm_law_network.proofs.Runs.{runs-make-sessions}
use Rattle.ocm_law_network.proofs.working.a_server_that_ran_made_a_sessions_calls.Goals as goal

pub returns : goal.returns
returns g c = runs-make-sessions _ _
