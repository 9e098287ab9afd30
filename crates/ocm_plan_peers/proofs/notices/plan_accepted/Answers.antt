use Rattle.std.proofs.Common.{◌≡◌, ◌||◌, Some, None, not, option_copied, refl, sym, ap, ◌∙◌}
use Rattle.ocm_types.specs.Rights.{is_within}
use Rattle.ocm_rules.specs.Equal.{same_address}
use Rattle.ocm_rules.specs.Answers.{fails}
use Rattle.ocm_rules.specs.Numbers.{at_number}
use Rattle.ocm_rules.specs.State.{view_in}
use Rattle.ocm_plan_peers.proofs.NamedShares.{shared-none, shared-some}
use Rattle.ocm_plan_peers.proofs.Answering.{shared-is, accepted-by, accepted-closed, accepted-other, accepted-same}
use Rattle.ocm_plan_peers.proofs.notices.plan_accepted.Goals as goal

pub returns-in_default : goal.returns-in_default
returns-in_default g c = λ fresh.
    let v = view_in c.args.tables.now.state in
    let none = shared-none v c.args.id.now c.args.secret.now (sym c.in_default.is ∙ c.share_with.ensures.number) in
    c.refused.ensures.plans _ (accepted-by v c.args.id.now c.args.secret.now _ _ c.args.perms fresh None none)

pub returns-then-not-is_live : goal.returns-then-not-is_live
returns-then-not-is_live g c = λ fresh.
    let v = view_in c.args.tables.now.state in
    let found = shared-some v c.args.id.now c.args.secret.now c.in-Some.number (sym c.in-Some.is ∙ c.share_with.ensures.number) in
    let closed = sym c.is_live.ensures.live ∙ c.if-not-is_live.true in
    c.refused-then-not-is_live.ensures.plans _ (accepted-closed v c.in-Some.number found.0 _ _ c.args.perms closed ∙ accepted-by v c.args.id.now c.args.secret.now _ _ c.args.perms fresh _ found.1)

pub returns-then-not-is_as_offered : goal.returns-then-not-is_as_offered
returns-then-not-is_as_offered g c = λ fresh.
    let v = view_in c.args.tables.now.state in
    let there : at_number v.shares c.in-Some.number ≡ Some c.unwrap-share.result.now = sym c.share.ensures.share ∙ ap option_copied c.unwrap-share.ensures in
    let shared = shared-is v c.args.id.now c.args.secret.now c.in-Some.number c.unwrap-share.result.now (sym c.in-Some.is ∙ c.share_with.ensures.number) there in
    let live = sym c.is_live.ensures.live ∙ c.if-not-is_live.false in
    let told : c.is_as_offered.result ≡ not (fails (same_address (record { user = c.owner_of-user.result.now.name; host = v.host })) (option_copied c.args.owner) || fails (same_address c.unwrap-share.result.now.with) (option_copied c.args.with) || fails (λ p. is_within p c.unwrap-share.result.now.granted) c.args.perms) = rw (← c.host.ensures) c.is_as_offered.ensures in
    c.refused-then-not-is_as_offered.ensures.plans _ (accepted-other v c.in-Some.number c.unwrap-share.result.now c.owner_of-user.result.now _ _ c.args.perms c.is_as_offered.result live c.owner_of-user.ensures told c.if-not-is_as_offered.true ∙ accepted-by v c.args.id.now c.args.secret.now _ _ c.args.perms fresh _ shared)

pub returns : goal.returns
returns g c = λ fresh.
    let v = view_in c.args.tables.now.state in
    let there : at_number v.shares c.in-Some.number ≡ Some c.unwrap-share.result.now = sym c.share.ensures.share ∙ ap option_copied c.unwrap-share.ensures in
    let shared = shared-is v c.args.id.now c.args.secret.now c.in-Some.number c.unwrap-share.result.now (sym c.in-Some.is ∙ c.share_with.ensures.number) there in
    let live = sym c.is_live.ensures.live ∙ c.if-not-is_live.false in
    let told : c.is_as_offered.result ≡ not (fails (same_address (record { user = c.owner_of-user.result.now.name; host = v.host })) (option_copied c.args.owner) || fails (same_address c.unwrap-share.result.now.with) (option_copied c.args.with) || fails (λ p. is_within p c.unwrap-share.result.now.granted) c.args.perms) = rw (← c.host.ensures) c.is_as_offered.ensures in
    c.only.ensures.plans _ (accepted-same v c.in-Some.number c.unwrap-share.result.now c.owner_of-user.result.now _ _ c.args.perms c.is_as_offered.result live c.owner_of-user.ensures told c.if-not-is_as_offered.false ∙ accepted-by v c.args.id.now c.args.secret.now _ _ c.args.perms fresh _ shared) refl

pub owner_of-user-requires : goal.owner_of-user-requires
owner_of-user-requires g c = rw c.unwrap-share.ensures at c.share.ensures.owner
