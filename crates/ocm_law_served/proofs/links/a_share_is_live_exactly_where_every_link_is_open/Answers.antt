use Rattle.ocm_rules.specs.History.{kept}
use Rattle.ocm_rules.proofs.Kept.{kept-answered}
use Rattle.ocm_law_served.proofs.Chains.{live-open, open-live}
use Rattle.ocm_law_served.proofs.links.a_share_is_live_exactly_where_every_link_is_open.Goals as goal

pub returns-clause-live : goal.returns-clause-live
returns-clause-live c = λ host g i m legal is live. live-open host (kept host g) i m (kept-answered host g legal) is live

pub returns-clause-open : goal.returns-clause-open
returns-clause-open c = λ host g i m chain legal opened. open-live host (kept host g) i m chain (kept-answered host g legal) opened
