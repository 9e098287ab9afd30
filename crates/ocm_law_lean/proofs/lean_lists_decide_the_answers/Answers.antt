use Rattle.ocm_law_lean.proofs.Answered.{answer-same}
use Rattle.ocm_law_lean.proofs.lean_lists_decide_the_answers.Goals as goal

pub returns : goal.returns
returns c = λ host g other ask same. answer-same host g other ask same
