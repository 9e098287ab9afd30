use Rattle.ocm_rules.specs.History.{kept}
use Rattle.ocm_rules.proofs.Kept.{kept-answered}
use Rattle.ocm_law_grants.proofs.Chains.{chained-all}
use Rattle.ocm_law_grants.proofs.grants.shares_lie_below_their_parents.Goals as goal

pub returns : goal.returns
returns c = λ host g i p m legal is parent. let r = chained-all host (kept host g) (kept-answered host g legal) i m is p parent in (r.0, r.1, r.2, r.3)
