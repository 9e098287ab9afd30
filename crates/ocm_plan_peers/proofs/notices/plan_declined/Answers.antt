use Rattle.std.proofs.Common.{None, refl, sym, ap, ◌∙◌}
use Rattle.ocm_rules.specs.Messages.{at_end, without}
use Rattle.ocm_rules.specs.State.{view_in}
use Rattle.ocm_plan_peers.proofs.ListRows.{is-there}
use Rattle.ocm_plan_peers.proofs.NamedShares.{shared-none, shared-some}
use Rattle.ocm_plan_peers.proofs.Answering.{declined-by, live-named}
use Rattle.ocm_plan_peers.proofs.Children.{share-row}
use Rattle.ocm_plan_peers.proofs.Ends.{declined-makes}
use Rattle.ocm_plan_peers.proofs.notices.plan_declined.Goals as goal

pub returns-in_default : goal.returns-in_default
returns-in_default g c = λ fresh.
    let v = view_in c.args.tables.now.state in
    let none = shared-none v c.args.id.now c.args.secret.now (sym c.in_default.is ∙ c.share_with.ensures.number) in
    c.refused.ensures.plans _ (declined-by v c.args.id.now c.args.secret.now fresh None none)

pub returns-then-not-is_live : goal.returns-then-not-is_live
returns-then-not-is_live g c = λ fresh.
    let v = view_in c.args.tables.now.state in
    let found = shared-some v c.args.id.now c.args.secret.now c.in-Some.number (sym c.in-Some.is ∙ c.share_with.ensures.number) in
    let closed = sym c.is_live.ensures.live ∙ c.if-not-is_live.true in
    c.only.ensures.plans _ (declined-by v c.args.id.now c.args.secret.now fresh _ found.1) (live-named v c.args.id.now c.in-Some.number _ found.2 closed)

pub cut_by-requires : goal.cut_by-requires
cut_by-requires g c =
    let v = view_in c.args.tables.now.state in
    let found = shared-some v c.args.id.now c.args.secret.now c.in-Some.number (sym c.in-Some.is ∙ c.share_with.ensures.number) in
    is-there v.shares c.in-Some.number found.0 found.3

pub returns : goal.returns
returns g c = λ fresh.
    let st = c.args.tables.now.state in
    let v = view_in st in
    let found = shared-some v c.args.id.now c.args.secret.now c.in-Some.number (sym c.in-Some.is ∙ c.share_with.ensures.number) in
    let live = sym c.is_live.ensures.live ∙ c.if-not-is_live.false in
    let sent = c.in_ok-sent.ensures ∙ ap (at_end v) (c.in_ok-others.ensures ∙ ap (without c.in-Some.number) c.in_ok-cut.ensures.cut) in
    c.new.ensures.plans _ (declined-by v c.args.id.now c.args.secret.now fresh _ found.1) (live-named v c.args.id.now c.in-Some.number _ found.2 live) refl
    (declined-makes st c.args.id.now c.args.secret.now fresh c.in-Some.number c.in_ok-sent.sent found.2 sent) (share-row st c.in-Some.number (is-there v.shares c.in-Some.number found.0 found.3)) refl
