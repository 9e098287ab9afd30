use Rattle.ocm_law_lean.proofs.Answered.{lean-lean}
use Rattle.ocm_law_lean.proofs.lean_lists_stay_lean.Goals as goal

pub returns : goal.returns
returns c = λ host g legal. lean-lean host g legal
