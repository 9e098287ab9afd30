use Rattle.ocm_rules.proofs.Kept.{kept-answered}
use Rattle.ocm_rules.proofs.States.{state_of-kept}
use Rattle.ocm_rules.proofs.laws.lists_go_on_by_an_entry.Goals as goal

pub returns : goal.returns
returns c = λ host g e legal. state_of-kept host g e (kept-answered host g legal)
