use Rattle.ocm_turn.proofs.AllCalls.{all_are_the_history}
use Rattle.ocm_turn.proofs.laws.all_calls_are_the_history.Goals as goal

pub returns : goal.returns
returns c = all_are_the_history
