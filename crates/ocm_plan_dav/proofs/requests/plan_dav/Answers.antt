use Rattle.std.proofs.Common.{Option, ◌∙◌, sym, ap}
use Rattle.ocm_entry.specs.declared.asks.Ask.TheVariants as asks
use Rattle.ocm_entry.specs.declared.refusals.Why.TheVariants.{NotPermitted}
use Rattle.ocm_entry.specs.declared.rows.Grant.{Grant}
use Rattle.ocm_rules.specs.Answers.{dav_reply, method_reply, refused}
use Rattle.ocm_rules.specs.Files.{below}
use Rattle.ocm_rules.specs.Holders.{permits}
use Rattle.ocm_rules.specs.State.{view_in}
use Rattle.ocm_plan_dav.proofs.Rows.{next}
use Rattle.ocm_plan_dav.proofs.requests.plan_dav.Goals as goal

pub returns-in_default-clause-plans : goal.returns-in_default-clause-plans
returns-in_default-clause-plans g c =
    let v = view_in c.args.tables.now.state in
    let path = c.args.path.now in
    let body = c.args.body.now in
    c.refused.ensures.plans (asks.Dav c.args.secret.now c.args.method path body)
    (ap (λ (found : Option Grant). dav_reply v found c.args.method path body) (sym c.in_default.is ∙ c.in_ok-grant.ensures.grant))

pub returns-then-not-permits-clause-plans : goal.returns-then-not-permits-clause-plans
returns-then-not-permits-clause-plans g c =
    let v = view_in c.args.tables.now.state in
    let path = c.args.path.now in
    let body = c.args.body.now in
    let grant = c.in-Some.grant in
    c.refused-then-not-permits.ensures.plans (asks.Dav c.args.secret.now c.args.method path body)
    (next (permits grant.rights c.args.method) (method_reply v c.args.method (below grant.root path) path body) (refused NotPermitted) (sym c.permits.ensures ∙ c.if-not-permits.true)
    ∙ ap (λ (found : Option Grant). dav_reply v found c.args.method path body) (sym c.in-Some.is ∙ c.in_ok-grant.ensures.grant))
