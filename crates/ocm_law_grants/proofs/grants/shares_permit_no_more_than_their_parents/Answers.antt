use Rattle.ocm_rules.specs.History.{kept}
use Rattle.ocm_rules.proofs.Kept.{kept-answered}
use Rattle.ocm_law_grants.proofs.Chains.{effective-below}
use Rattle.ocm_law_grants.proofs.grants.shares_permit_no_more_than_their_parents.Goals as goal

pub returns : goal.returns
returns c = λ host g i p m legal is parent. effective-below host (kept host g) i p m (kept-answered host g legal) is parent
