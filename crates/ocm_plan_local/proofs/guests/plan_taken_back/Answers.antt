use Rattle.std.proofs.Common.{◌≡◌, ℕ, List, true, false, Some, None, refl, sym, ap, ◌∙◌, is_some}
use Rattle.ocm_entry.specs.declared.asks.Cmd.TheVariants as commands
use Rattle.ocm_entry.specs.declared.refusals.Why.TheVariants.{WrongPhase}
use Rattle.ocm_entry.specs.declared.replies.Reply.TheVariants.{Done}
use Rattle.ocm_rules.specs.Answers.{refused}
use Rattle.ocm_rules.specs.State.{view_in}
use Rattle.std.proofs.Common.{Option}
use Rattle.ocm_types.specs.declared.phases.RequestPhase.{RequestPhase}
use Rattle.ocm_rules.specs.Requests.{child_of}
use Rattle.ocm_rules.specs.State.{asked_in}
use Rattle.ocm_rules.specs.Views.{request_of_user}
use Rattle.ocm_plan_local.proofs.LocalReplies.{answered, phase-done, phase-wrong}
use Rattle.ocm_plan_local.proofs.Makes.{undo-makes}
use Rattle.ocm_plan_local.proofs.guests.plan_taken_back.Goals as goal

pub returns-in_default : goal.returns-in_default
returns-in_default c =
    let st = c.args.tables.now.state in
    let v = view_in st in
    let own = c.requires.owned in
    let none : child_of c.args.row.now.state ≡ None = sym c.in_default.ensures in
    let wrong : is_some (child_of (v.state c.args.request)) ≡ false = ap (λ (s : RequestPhase). is_some (child_of s)) own.state ∙ ap (λ (o : Option (List ℕ)). is_some o) none in
    c.refused.ensures.plans _
    (answered st c.args.key.now (commands.Undo c.args.request) (Some c.args.user) (refused WrongPhase) c.requires.user
    (phase-wrong (request_of_user v c.args.user c.args.request) (is_some (child_of (v.state c.args.request))) (asked_in c.args.row.now) own.owned wrong))

pub returns : goal.returns
returns c =
    let st = c.args.tables.now.state in
    let v = view_in st in
    let own = c.requires.owned in
    let some : child_of c.args.row.now.state ≡ Some c.in-Some.child.now = sym c.in-Some.ensures in
    let right : is_some (child_of (v.state c.args.request)) ≡ true = ap (λ (s : RequestPhase). is_some (child_of s)) own.state ∙ ap (λ (o : Option (List ℕ)). is_some o) some in
    c.new.ensures.plans _
    (answered st c.args.key.now (commands.Undo c.args.request) (Some c.args.user) Done c.requires.user
    (phase-done (request_of_user v c.args.user c.args.request) (is_some (child_of (v.state c.args.request))) (asked_in c.args.row.now) own.owned right))
    refl refl
    (undo-makes st c.args.key.now c.args.user c.args.request Done c.args.row.now c.args.received.now c.in-Some.child.now c.in_ok-message.message c.in_ok-sent.sent own some c.in_ok-message.ensures c.in_ok-sent.ensures)
    own.there refl
