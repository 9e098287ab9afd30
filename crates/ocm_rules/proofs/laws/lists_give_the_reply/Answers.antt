use Rattle.ocm_rules.specs.History.{kept}
use Rattle.ocm_rules.proofs.Kept.{kept-answered}
use Rattle.ocm_rules.proofs.States.{answer-state}
use Rattle.ocm_rules.proofs.laws.lists_give_the_reply.Goals as goal

pub returns : goal.returns
returns c = λ host g ask legal. answer-state host (kept host g) ask (kept-answered host g legal)
