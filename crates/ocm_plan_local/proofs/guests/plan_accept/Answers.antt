use Rattle.std.proofs.Common.{◌≡◌, true, false, Some, refl, sym, ap, ◌∙◌}
use Rattle.ocm_entry.specs.declared.asks.Cmd.TheVariants as commands
use Rattle.ocm_entry.specs.declared.refusals.Why.TheVariants.{NotFound, WrongPhase}
use Rattle.ocm_entry.specs.declared.replies.Reply.TheVariants.{Done}
use Rattle.ocm_rules.specs.Answers.{refused}
use Rattle.ocm_rules.specs.State.{view_in}
use Rattle.ocm_types.specs.declared.phases.Phase.{Phase}
use Rattle.ocm_rules.specs.Offers.{is_pending}
use Rattle.ocm_rules.specs.Views.{record_of_user}
use Rattle.ocm_plan_local.proofs.LocalReplies.{answered, phase-done, phase-nothing, phase-wrong}
use Rattle.ocm_plan_local.proofs.Makes.{accept-makes}
use Rattle.ocm_plan_local.proofs.guests.plan_accept.Goals as goal

pub returns-in_default : goal.returns-in_default
returns-in_default c =
    let st = c.args.tables.now.state in
    let v = view_in st in
    c.refused.ensures.plans _
    (answered st c.args.key.now (commands.Accept c.args.number) (Some c.args.user) (refused NotFound) c.requires (phase-nothing (record_of_user v c.args.user c.args.number) (is_pending (v.phase c.args.number)) c.in_default.ensures))

pub returns-then-not-is_pending : goal.returns-then-not-is_pending
returns-then-not-is_pending c =
    let st = c.args.tables.now.state in
    let v = view_in st in
    let own = c.in-Some.ensures in
    let wrong : is_pending (v.phase c.args.number) ≡ false = ap (λ (phase : Phase). is_pending phase) own.phase ∙ (sym c.is_pending.ensures ∙ c.if-not-is_pending.true) in
    c.refused-then-not-is_pending.ensures.plans _
    (answered st c.args.key.now (commands.Accept c.args.number) (Some c.args.user) (refused WrongPhase) c.requires (phase-wrong (record_of_user v c.args.user c.args.number) (is_pending (v.phase c.args.number)) c.in-Some.received.now.offer own.owned wrong))

pub returns : goal.returns
returns c =
    let st = c.args.tables.now.state in
    let v = view_in st in
    let own = c.in-Some.ensures in
    let right : is_pending (v.phase c.args.number) ≡ true = ap (λ (phase : Phase). is_pending phase) own.phase ∙ (sym c.is_pending.ensures ∙ c.if-not-is_pending.false) in
    c.new.ensures.plans _
    (answered st c.args.key.now (commands.Accept c.args.number) (Some c.args.user) Done c.requires (phase-done (record_of_user v c.args.user c.args.number) (is_pending (v.phase c.args.number)) c.in-Some.received.now.offer own.owned right))
    refl refl
    (accept-makes st c.args.key.now c.args.number Done c.in-Some.received.now.offer c.in_ok-message.message c.in_ok-sent.sent own.found c.in_ok-message.ensures c.in_ok-sent.ensures)
    own.there refl
