use Rattle.ocm_rules.specs.History.{kept}
use Rattle.ocm_rules.proofs.Kept.{kept-answered}
use Rattle.ocm_law_grants.proofs.Permissions.{perms-within}
use Rattle.ocm_law_grants.proofs.grants.permissions_stay_within_the_grant.Goals as goal

pub returns : goal.returns
returns c = λ host g i legal. perms-within host (kept host g) i (kept-answered host g legal)
