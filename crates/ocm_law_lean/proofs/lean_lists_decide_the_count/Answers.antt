use Rattle.ocm_law_lean.proofs.Thin.{count-same}
use Rattle.ocm_law_lean.proofs.lean_lists_decide_the_count.Goals as goal

pub returns : goal.returns
returns c = λ host g other same. count-same host g other same
