use Rattle.ocm_law_lean.proofs.Answered.{lean-goes_on}
use Rattle.ocm_law_lean.proofs.lean_lists_go_on_alike.Goals as goal

pub returns : goal.returns
returns c = λ host g other e same. lean-goes_on host e g other same
