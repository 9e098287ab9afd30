use Rattle.std.proofs.Common.{refl, sym, ap, ◌∙◌}
use Rattle.ocm_incoming.specs.declared.rows.Mark.{Mark}
use Rattle.ocm_rules.specs.Answers.{is_received}
use Rattle.ocm_rules.specs.History.{is_held}
use Rattle.ocm_rules.specs.State.{view_in}
use Rattle.ocm_plan_peers.proofs.Answering.{unshared-by}
use Rattle.ocm_plan_peers.proofs.Tellings.{unshared-makes}
use Rattle.ocm_plan_peers.proofs.news.plan_unshared.Goals as goal

pub returns-then-not-is_received : goal.returns-then-not-is_received
returns-then-not-is_received c = λ fresh.
    let v = view_in c.args.tables.now.state in
    let received = ap (λ (m : Mark). is_received v m.id m.secret) (sym c.in_ok-mark.ensures) ∙ (sym c.is_received.ensures ∙ c.if-not-is_received.true) in
    c.refused.ensures.plans _ (unshared-by v c.args.id.now c.args.secret.now fresh _ received)

pub returns-then-not-is_held : goal.returns-then-not-is_held
returns-then-not-is_held c = λ fresh.
    let v = view_in c.args.tables.now.state in
    let received = ap (λ (m : Mark). is_received v m.id m.secret) (sym c.in_ok-mark.ensures) ∙ (sym c.is_received.ensures ∙ c.if-not-is_received.false) in
    let held = ap (λ (m : Mark). is_held v m.id m.secret) (sym c.in_ok-mark.ensures) ∙ (sym c.is_held.ensures ∙ c.if-not-is_held.true) in
    c.only.ensures.plans _ (unshared-by v c.args.id.now c.args.secret.now fresh _ received) held

pub returns : goal.returns
returns c = λ fresh.
    let st = c.args.tables.now.state in
    let v = view_in st in
    let received = ap (λ (m : Mark). is_received v m.id m.secret) (sym c.in_ok-mark.ensures) ∙ (sym c.is_received.ensures ∙ c.if-not-is_received.false) in
    let held = ap (λ (m : Mark). is_held v m.id m.secret) (sym c.in_ok-mark.ensures) ∙ (sym c.is_held.ensures ∙ c.if-not-is_held.false) in
    c.silent.ensures.plans _ (unshared-by v c.args.id.now c.args.secret.now fresh _ received) held refl (unshared-makes st c.args.id.now c.args.secret.now fresh c.in_ok-mark.mark c.in_ok-mark.ensures) tt refl
