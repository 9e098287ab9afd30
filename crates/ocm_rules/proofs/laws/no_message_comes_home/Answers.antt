use Rattle.ocm_rules.specs.History.{kept}
use Rattle.ocm_rules.proofs.Kept.{kept-answered}
use Rattle.ocm_rules.proofs.Away.{out-away}
use Rattle.ocm_rules.proofs.laws.no_message_comes_home.Goals as goal

pub returns : goal.returns
returns c = λ host g legal. out-away host (kept host g) (kept-answered host g legal)
