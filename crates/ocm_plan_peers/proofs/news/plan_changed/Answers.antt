use Rattle.std.proofs.Common.{refl, sym, ap, ◌∙◌, arith}
use Rattle.std.proofs.lemmas.Bool.Decides.{nat_tests}
use Rattle.ocm_incoming.specs.declared.rows.Mark.{Mark}
use Rattle.ocm_rules.specs.Answers.{is_received}
use Rattle.ocm_rules.specs.State.{view_in}
use Rattle.ocm_plan_peers.proofs.Answering.{changed-by}
use Rattle.ocm_plan_peers.proofs.Tellings.{changed-makes, news-none, news-some, told-fit, told_after}
use Rattle.ocm_plan_peers.proofs.news.plan_changed.Goals as goal

pub returns-then-not-is_received : goal.returns-then-not-is_received
returns-then-not-is_received c = λ fresh.
    let v = view_in c.args.tables.now.state in
    let received = ap (λ (m : Mark). is_received v m.id m.secret) (sym c.in_ok-mark.ensures) ∙ (sym c.is_received.ensures ∙ c.if-not-is_received.true) in
    c.refused.ensures.plans _ (changed-by v c.args.id.now c.args.secret.now c.args.serial c.args.perms fresh _ received)

pub returns-then-is_empty : goal.returns-then-is_empty
returns-then-is_empty c = λ fresh.
    let st = c.args.tables.now.state in
    let v = view_in st in
    let received = ap (λ (m : Mark). is_received v m.id m.secret) (sym c.in_ok-mark.ensures) ∙ (sym c.is_received.ensures ∙ c.if-not-is_received.false) in
    let told = told_after st c.args.id.now c.args.secret.now c.args.serial c.in_ok-mark.mark _ c.in_ok-numbers.numbers c.in_ok-mark.ensures refl c.in_ok-numbers.ensures in
    c.only.ensures.plans _ (changed-by v c.args.id.now c.args.secret.now c.args.serial c.args.perms fresh _ received) (news-none st c.args.id.now c.args.secret.now c.args.serial c.in_ok-numbers.numbers told (grind (arith, nat_tests)))

pub returns : goal.returns
returns c = λ fresh.
    let st = c.args.tables.now.state in
    let v = view_in st in
    let received = ap (λ (m : Mark). is_received v m.id m.secret) (sym c.in_ok-mark.ensures) ∙ (sym c.is_received.ensures ∙ c.if-not-is_received.false) in
    let told = told_after st c.args.id.now c.args.secret.now c.args.serial c.in_ok-mark.mark _ c.in_ok-numbers.numbers c.in_ok-mark.ensures refl c.in_ok-numbers.ensures in
    c.silent.ensures.plans _ (changed-by v c.args.id.now c.args.secret.now c.args.serial c.args.perms fresh _ received) (news-some st c.args.id.now c.args.secret.now c.args.serial c.in_ok-numbers.numbers told (λ none. grind (arith, nat_tests))) refl
    (changed-makes st c.args.id.now c.args.secret.now fresh c.args.serial c.args.perms c.in_ok-numbers.numbers told) (told-fit st c.args.id.now c.args.secret.now c.args.serial c.in_ok-numbers.numbers told) refl
