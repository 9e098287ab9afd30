use Rattle.ocm_law_network.proofs.Histories.{shifts-settle}
use Rattle.ocm_law_network.proofs.working.shifts_settle_what_was_answered.Goals as goal

pub returns : goal.returns
returns g c = shifts-settle _ _
