use Rattle.std.proofs.Common.{◌∙◌, sym, ap}
use Rattle.ocm_rules.specs.Shares.{is_used}
use Rattle.ocm_rules.specs.State.{view_in}
use Rattle.ocm_plan_peers.proofs.Answering.{drawn-before}
use Rattle.ocm_plan_peers.proofs.requests.plan_granted.Goals as goal

pub returns-then-is_used : goal.returns-then-is_used
returns-then-is_used g c = λ id mark is_named grants answered.
    let st = c.args.tables.now.state in
    let used = ap (is_used st.users (view_in st).shares) (sym c.in_ok-secret.ensures.text) ∙ (sym c.is_used.ensures.used ∙ c.if-is_used.true) in
    c.refused.ensures.plans _ (drawn-before _ _ _ used answered)
