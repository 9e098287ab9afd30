use Rattle.ocm_law_network.proofs.Workers.{calls-are-workers}
use Rattle.ocm_law_network.proofs.working.every_call_is_a_workers.Goals as goal

pub returns : goal.returns
returns c = calls-are-workers
