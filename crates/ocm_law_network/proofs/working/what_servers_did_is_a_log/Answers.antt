use Rattle.ocm_law_network.proofs.Serving.{killed-servers-open-again, servers-go-on, servers-open-again}
use Rattle.ocm_law_network.proofs.working.what_servers_did_is_a_log.Goals as goal

pub returns-clause-calls : goal.returns-clause-calls
returns-clause-calls c = servers-go-on

pub returns-clause-again : goal.returns-clause-again
returns-clause-again c = servers-open-again

pub returns-clause-killed : goal.returns-clause-killed
returns-clause-killed c = killed-servers-open-again
