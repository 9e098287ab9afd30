use Rattle.ocm_turn.proofs.JoinedCalls.{joined_are_alone}
use Rattle.ocm_turn.proofs.laws.joined_calls_are_alone.Goals as goal

pub returns : goal.returns
returns c = joined_are_alone
