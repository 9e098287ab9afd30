use Rattle.ocm_rules.specs.History.{kept}
use Rattle.ocm_rules.proofs.Kept.{kept-answered}
use Rattle.ocm_law_served.proofs.Chains.{suffices-chain}
use Rattle.ocm_law_served.proofs.links.rights_suffice_exactly_where_every_link_grants.Goals as goal

pub returns : goal.returns
returns c = λ host g owner i chain request legal leads. suffices-chain host (kept host g) owner i chain request (kept-answered host g legal) leads
