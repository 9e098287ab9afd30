use Rattle.ocm_law_network.proofs.Histories.{histories-settle}
use Rattle.ocm_law_network.proofs.working.histories_settle_what_was_answered.Goals as goal

pub returns : goal.returns
returns c = histories-settle
