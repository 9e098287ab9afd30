use Rattle.ocm_rules.specs.History.{kept}
use Rattle.ocm_rules.proofs.Kept.{kept-answered}
use Rattle.ocm_law_grants.proofs.Secrets.{used-different}
use Rattle.ocm_law_grants.proofs.grants.keys_and_secrets_differ.Goals as goal

pub returns : goal.returns
returns c = λ host g legal. used-different host (kept host g) (kept-answered host g legal)
