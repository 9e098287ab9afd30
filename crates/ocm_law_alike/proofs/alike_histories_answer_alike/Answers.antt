use Rattle.ocm_law_alike.proofs.Going.{AnswersAlike-from}
use Rattle.ocm_law_alike.proofs.alike_histories_answer_alike.Goals as goal

pub returns : goal.returns
returns c = AnswersAlike-from
