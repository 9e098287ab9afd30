use Rattle.ocm_law_network.proofs.Apart.{sessions-make-logs}
use Rattle.ocm_law_network.proofs.beside.sessions_beside_each_other_are_a_log.Goals as goal

pub returns : goal.returns
returns c = sessions-make-logs
