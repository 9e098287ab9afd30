use Rattle.ocm_law_network.proofs.Runs.{runs-follow, runs-open-next}
use Rattle.ocm_law_network.proofs.working.one_run_follows_another.Goals as goal

pub returns-clause-opens : goal.returns-clause-opens
returns-clause-opens g c = runs-open-next _

pub returns-clause-follows : goal.returns-clause-follows
returns-clause-follows g c = runs-follow _ _
