use Rattle.ocm_rules.proofs.Kept.{kept-answered}
use Rattle.ocm_rules.proofs.laws.kept_entries_are_answered.Goals as goal

pub returns : goal.returns
returns c = λ host g legal. kept-answered host g legal
