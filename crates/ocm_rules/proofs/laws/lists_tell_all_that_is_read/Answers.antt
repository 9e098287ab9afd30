use Rattle.ocm_rules.specs.History.{kept}
use Rattle.ocm_rules.proofs.Kept.{kept-answered}
use Rattle.ocm_rules.proofs.States.{view_of-state}
use Rattle.ocm_rules.proofs.laws.lists_tell_all_that_is_read.Goals as goal

pub returns : goal.returns
returns c = λ host g legal. view_of-state host (kept host g) (kept-answered host g legal)
