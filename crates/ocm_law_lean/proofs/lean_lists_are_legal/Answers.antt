use Rattle.ocm_law_lean.proofs.Answered.{lean-legal}
use Rattle.ocm_law_lean.proofs.lean_lists_are_legal.Goals as goal

pub returns : goal.returns
returns c = λ host g legal. lean-legal host g legal
