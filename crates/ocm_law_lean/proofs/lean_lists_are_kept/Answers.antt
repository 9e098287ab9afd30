use Rattle.ocm_law_lean.proofs.Answered.{lean-kept}
use Rattle.ocm_law_lean.proofs.lean_lists_are_kept.Goals as goal

pub returns : goal.returns
returns c = λ host g legal. lean-kept host g legal
