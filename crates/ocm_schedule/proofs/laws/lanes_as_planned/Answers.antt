use Rattle.ocm_schedule.proofs.KeptLemmas.{lanes_as_planned}
use Rattle.ocm_schedule.proofs.laws.lanes_as_planned.Goals as goal

pub returns : goal.returns
returns c = lanes_as_planned
