use Rattle.ocm_rules.specs.History.{kept}
use Rattle.ocm_rules.proofs.Kept.{kept-answered}
use Rattle.ocm_law_served.proofs.Chains.{leads-links, leads-up}
use Rattle.ocm_law_served.proofs.links.one_chain_leads_up_to_the_owner.Goals as goal

pub returns-clause-leads : goal.returns-clause-leads
returns-clause-leads c = λ host g i m legal is. leads-up host (kept host g) i m (kept-answered host g legal) is

pub returns-clause-alone : goal.returns-clause-alone
returns-clause-alone c = λ host g owner i chain legal leads. leads-links host (kept host g) owner i chain (kept-answered host g legal) leads
