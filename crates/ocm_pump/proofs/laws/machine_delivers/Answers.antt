use Rattle.ocm_pump.proofs.MachineLemmas.{delivers}
use Rattle.ocm_pump.proofs.laws.machine_delivers.Goals as goal

pub returns : goal.returns
returns c = delivers
