use Rattle.std.proofs.Common.{Some, None, sym, ◌∙◌, refl}
use Rattle.ocm_rules.specs.State.{view_in}
use Rattle.ocm_plan_peers.proofs.NamedShares.{shared-none, shared-some}
use Rattle.ocm_plan_peers.proofs.Answering.{child-before, request-by, request-unknown}
use Rattle.ocm_plan_peers.proofs.requests.plan_request.Goals as goal

pub returns-in_default : goal.returns-in_default
returns-in_default g c =
    let v = view_in c.args.tables.now.state in
    let none = shared-none v c.args.id.now c.args.secret.now (sym c.in_default.is ∙ c.share_with.ensures.number) in
    c.refused.ensures.plans _ (request-unknown v c.args.id.now c.args.secret.now c.args.with.now c.args.sender_id.now c.args.asked.now c.args.fresh.now none)

pub returns-in-Some-child_for : goal.returns-in-Some-child_for
returns-in-Some-child_for g c =
    let v = view_in c.args.tables.now.state in
    let found = shared-some v c.args.id.now c.args.secret.now c.in-Some.parent (sym c.in-Some.is ∙ c.share_with.ensures.number) in
    let child = sym c.child_for.ensures.child ∙ c.in-Some-child_for.is in
    c.plan_repeated.ensures _ (request-by v c.args.id.now c.args.secret.now c.args.with.now c.args.sender_id.now c.args.asked.now c.args.fresh.now c.in-Some.parent found.0 (Some c.in-Some-child_for.child) found.1 child)
    (child-before v c.in-Some.parent c.args.sender_id.now c.in-Some-child_for.child child)

pub plan_first-requires : goal.plan_first-requires
plan_first-requires g c =
    let found = shared-some (view_in c.args.tables.now.state) c.args.id.now c.args.secret.now c.in-Some.parent (sym c.in-Some.is ∙ c.share_with.ensures.number) in
    rw found.3 refl

pub returns-in-None : goal.returns-in-None
returns-in-None g c =
    let v = view_in c.args.tables.now.state in
    let found = shared-some v c.args.id.now c.args.secret.now c.in-Some.parent (sym c.in-Some.is ∙ c.share_with.ensures.number) in
    let child = sym c.child_for.ensures.child ∙ c.in-None.is in
    c.plan_first.ensures c.args.id.now c.args.secret.now found.2 (request-by v c.args.id.now c.args.secret.now c.args.with.now c.args.sender_id.now c.args.asked.now c.args.fresh.now c.in-Some.parent found.0 None found.1 child)
