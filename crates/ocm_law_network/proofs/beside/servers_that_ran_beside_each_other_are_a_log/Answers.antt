use Rattle.ocm_law_network.proofs.Apart.{runs-make-logs}
use Rattle.ocm_law_network.proofs.beside.servers_that_ran_beside_each_other_are_a_log.Goals as goal

pub returns : goal.returns
returns g c = runs-make-logs _
