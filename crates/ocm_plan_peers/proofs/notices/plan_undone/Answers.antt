use Rattle.std.proofs.Common.{refl, sym, ap, ◌∙◌}
use Rattle.ocm_rules.specs.Messages.{at_end}
use Rattle.ocm_rules.specs.Shares.{named}
use Rattle.ocm_rules.specs.State.{view_in}
use Rattle.ocm_plan_peers.proofs.ListRows.{is-there}
use Rattle.ocm_plan_peers.proofs.NamedShares.{child-named, named-some}
use Rattle.ocm_plan_peers.proofs.Answering.{undone-by, live-named}
use Rattle.ocm_plan_peers.proofs.Children.{share-row}
use Rattle.ocm_plan_peers.proofs.Ends.{undone-makes}
use Rattle.ocm_plan_peers.proofs.notices.plan_undone.Goals as goal

pub returns-then-not-is_child_of : goal.returns-then-not-is_child_of
returns-then-not-is_child_of g c = λ fresh.
    let v = view_in c.args.tables.now.state in
    c.refused.ensures.plans _ (undone-by v c.args.id.now c.args.secret.now fresh _ (sym c.is_child_of.ensures ∙ c.if-not-is_child_of.true))

pub unwrap-number-requires : goal.unwrap-number-requires
unwrap-number-requires g c =
    let v = view_in c.args.tables.now.state in
    rw c.named_share.ensures (child-named v c.args.id.now c.args.secret.now (sym c.is_child_of.ensures ∙ c.if-not-is_child_of.false))

pub returns-then-not-is_live : goal.returns-then-not-is_live
returns-then-not-is_live g c = λ fresh.
    let v = view_in c.args.tables.now.state in
    let found = named-some v (named c.args.id.now) c.unwrap-number.result (sym c.named_share.ensures ∙ c.unwrap-number.ensures) in
    let closed = sym c.is_live.ensures.live ∙ c.if-not-is_live.true in
    c.only.ensures.plans _ (undone-by v c.args.id.now c.args.secret.now fresh _ (sym c.is_child_of.ensures ∙ c.if-not-is_child_of.false)) (live-named v c.args.id.now c.unwrap-number.result _ found.1 closed)

pub cut_by-requires : goal.cut_by-requires
cut_by-requires g c =
    let v = view_in c.args.tables.now.state in
    let found = named-some v (named c.args.id.now) c.unwrap-number.result (sym c.named_share.ensures ∙ c.unwrap-number.ensures) in
    is-there v.shares c.unwrap-number.result found.0 found.2

pub returns : goal.returns
returns g c = λ fresh.
    let st = c.args.tables.now.state in
    let v = view_in st in
    let found = named-some v (named c.args.id.now) c.unwrap-number.result (sym c.named_share.ensures ∙ c.unwrap-number.ensures) in
    let live = sym c.is_live.ensures.live ∙ c.if-not-is_live.false in
    let sent = c.in_ok-sent.ensures ∙ ap (at_end v) c.in_ok-cut.ensures.cut in
    c.new.ensures.plans _ (undone-by v c.args.id.now c.args.secret.now fresh _ (sym c.is_child_of.ensures ∙ c.if-not-is_child_of.false)) (live-named v c.args.id.now c.unwrap-number.result _ found.1 live) refl
    (undone-makes st c.args.id.now c.args.secret.now fresh c.unwrap-number.result c.in_ok-sent.sent found.1 sent) (share-row st c.unwrap-number.result (is-there v.shares c.unwrap-number.result found.0 found.2)) refl
