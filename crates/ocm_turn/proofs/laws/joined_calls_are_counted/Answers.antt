use Rattle.ocm_turn.proofs.JoinedCalls.{joined_are_counted}
use Rattle.ocm_turn.proofs.laws.joined_calls_are_counted.Goals as goal

pub returns : goal.returns
returns c = joined_are_counted
