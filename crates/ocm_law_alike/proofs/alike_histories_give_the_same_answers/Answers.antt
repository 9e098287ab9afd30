use Rattle.ocm_law_alike.proofs.Going.{answers-alike}
use Rattle.ocm_law_alike.proofs.alike_histories_give_the_same_answers.Goals as goal

pub returns : goal.returns
returns c = answers-alike
