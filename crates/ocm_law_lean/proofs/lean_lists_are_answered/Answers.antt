use Rattle.ocm_law_lean.proofs.Answered.{lean-answered}
use Rattle.ocm_law_lean.proofs.lean_lists_are_answered.Goals as goal

pub returns : goal.returns
returns c = λ host g legal. lean-answered host g legal
