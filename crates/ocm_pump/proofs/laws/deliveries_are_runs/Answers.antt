use Rattle.ocm_pump.proofs.MachineLemmas.{is_run}
use Rattle.ocm_pump.proofs.laws.deliveries_are_runs.Goals as goal

pub returns : goal.returns
returns c = is_run
