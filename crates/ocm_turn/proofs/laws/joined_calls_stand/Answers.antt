use Rattle.ocm_turn.proofs.JoinedCalls.{joined_stand}
use Rattle.ocm_turn.proofs.laws.joined_calls_stand.Goals as goal

pub returns : goal.returns
returns c = joined_stand
