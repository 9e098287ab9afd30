use Rattle.std.proofs.Common.{Option, not, ◌∙◌, sym, ap, if◌then◌else◌}
use Rattle.ocm_entry.specs.declared.asks.Ask.TheVariants as asks
use Rattle.ocm_entry.specs.declared.refusals.Why.TheVariants.{NotPermitted, RootStays}
use Rattle.ocm_entry.specs.declared.rows.Grant.{Grant}
use Rattle.ocm_rules.specs.Answers.{carried_reply, carries_root, carry_reply, refused}
use Rattle.ocm_rules.specs.Files.{below}
use Rattle.ocm_rules.specs.Holders.{permits_carry}
use Rattle.ocm_rules.specs.State.{view_in}
use Rattle.ocm_plan_dav.proofs.Rows.{first, next}
use Rattle.ocm_plan_dav.proofs.carries.plan_carry.Goals as goal

pub returns-in_default-clause-plans : goal.returns-in_default-clause-plans
returns-in_default-clause-plans g c =
    let v = view_in c.args.tables.now.state in
    let from = c.args.from.now in
    let to = c.args.to.now in
    c.refused.ensures.plans (asks.Carry c.args.secret.now from to c.args.moving c.args.overwrite)
    (ap (λ (found : Option Grant). carry_reply v found from to c.args.moving c.args.overwrite) (sym c.in_default.is ∙ c.in_ok-grant.ensures.grant))

pub returns-then-not-permits_carry-clause-plans : goal.returns-then-not-permits_carry-clause-plans
returns-then-not-permits_carry-clause-plans g c =
    let v = view_in c.args.tables.now.state in
    let from = c.args.from.now in
    let to = c.args.to.now in
    let grant = c.in-Some.grant in
    let root = carries_root from to c.args.moving in
    let reply = carried_reply v (below grant.root from) (below grant.root to) c.args.moving c.args.overwrite (v.stands (below grant.root from)) in
    c.refused-then-not-permits_carry.ensures.plans (asks.Carry c.args.secret.now from to c.args.moving c.args.overwrite)
    (first (not (permits_carry grant.rights c.args.moving)) (refused NotPermitted) (if root then refused RootStays else reply) (ap not (sym c.permits_carry.ensures ∙ c.if-not-permits_carry.true))
    ∙ ap (λ (found : Option Grant). carry_reply v found from to c.args.moving c.args.overwrite) (sym c.in-Some.is ∙ c.in_ok-grant.ensures.grant))

pub returns-then-carries_root-clause-plans : goal.returns-then-carries_root-clause-plans
returns-then-carries_root-clause-plans g c =
    let v = view_in c.args.tables.now.state in
    let from = c.args.from.now in
    let to = c.args.to.now in
    let grant = c.in-Some.grant in
    let root = carries_root from to c.args.moving in
    let reply = carried_reply v (below grant.root from) (below grant.root to) c.args.moving c.args.overwrite (v.stands (below grant.root from)) in
    c.refused-then-carries_root.ensures.plans (asks.Carry c.args.secret.now from to c.args.moving c.args.overwrite)
    (first root (refused RootStays) reply (sym c.carries_root.ensures ∙ c.if-carries_root.true)
    ∙ next (not (permits_carry grant.rights c.args.moving)) (refused NotPermitted) (if root then refused RootStays else reply) (ap not (sym c.permits_carry.ensures ∙ c.if-not-permits_carry.false))
    ∙ ap (λ (found : Option Grant). carry_reply v found from to c.args.moving c.args.overwrite) (sym c.in-Some.is ∙ c.in_ok-grant.ensures.grant))
