use Rattle.ocm_turn.proofs.JoinedCalls.{ordered_are_alone}
use Rattle.ocm_turn.proofs.laws.ordered_calls_are_alone.Goals as goal

pub returns : goal.returns
returns c = ordered_are_alone
