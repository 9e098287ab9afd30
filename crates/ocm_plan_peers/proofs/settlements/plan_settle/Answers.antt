use Rattle.std.proofs.Common.{Option, not, option_copied, refl, sym, ap, ◌∙◌}
use Rattle.ocm_entry.specs.declared.replies.Reply.TheVariants.{Done}
use Rattle.ocm_rules.specs.declared.rows.Message.{Message}
use Rattle.ocm_rules.specs.Answers.{settle_reply}
use Rattle.ocm_rules.specs.Messages.{as_sent}
use Rattle.ocm_rules.specs.Numbers.{at_number}
use Rattle.ocm_rules.specs.State.{view_in}
use Rattle.ocm_plan_peers.proofs.NamedShares.{mapped-none}
use Rattle.ocm_plan_peers.proofs.Settling.{message-letter, message-row, message-there, reply-done, reply-left, reply-settled, settle-makes}
use Rattle.ocm_plan_peers.proofs.settlements.plan_settle.Goals as goal

pub returns-in_default : goal.returns-in_default
returns-in_default c =
    let v = view_in c.args.tables.now.state in
    let none = mapped-none (λ (m : Message). as_sent (c.args.number, m)) (at_number v.messages c.args.number) (sym c.message.ensures ∙ ap option_copied c.in_default.is) in
    c.refused.ensures.plans _ (ap (λ (o : Option Message). settle_reply o (v.is_settled c.args.number) c.args.status (option_copied c.args.id)) (sym none))

pub returns-then-is_settled : goal.returns-then-is_settled
returns-then-is_settled c =
    let v = view_in c.args.tables.now.state in
    let there = message-there c.args.number (at_number v.messages c.args.number) c.in-Some.message.now (sym (ap option_copied c.in-Some.is) ∙ c.message.ensures) in
    let settled = sym c.is_settled.ensures ∙ c.if-is_settled.true in
    c.only.ensures.plans _ (reply-settled (at_number v.messages c.args.number) _ c.args.status _ there settled) (ap not settled)

pub settles-requires : goal.settles-requires
settles-requires c =
    let v = view_in c.args.tables.now.state in
    message-there c.args.number (at_number v.messages c.args.number) c.in-Some.message.now (sym (ap option_copied c.in-Some.is) ∙ c.message.ensures)

pub returns-then-not-settles : goal.returns-then-not-settles
returns-then-not-settles c =
    let v = view_in c.args.tables.now.state in
    let there = message-there c.args.number (at_number v.messages c.args.number) c.in-Some.message.now (sym (ap option_copied c.in-Some.is) ∙ c.message.ensures) in
    let waits = sym c.is_settled.ensures ∙ c.if-is_settled.false in
    c.only-then-not-settles.ensures.plans _ (reply-left (at_number v.messages c.args.number) _ c.settles.result c.args.status _ there c.settles.ensures waits c.if-not-settles.true) refl

pub outcome_of-requires : goal.outcome_of-requires
outcome_of-requires c =
    let v = view_in c.args.tables.now.state in
    rw c.deref.ensures (message-letter c.args.number (at_number v.messages c.args.number) c.in-Some.message.now (sym (ap option_copied c.in-Some.is) ∙ c.message.ensures))

pub returns : goal.returns
returns c =
    let st = c.args.tables.now.state in
    let v = view_in st in
    let there = message-there c.args.number (at_number v.messages c.args.number) c.in-Some.message.now (sym (ap option_copied c.in-Some.is) ∙ c.message.ensures) in
    let waits = sym c.is_settled.ensures ∙ c.if-is_settled.false in
    c.silent.ensures.plans _ (reply-done (at_number v.messages c.args.number) _ c.settles.result c.args.status _ there c.settles.ensures waits c.if-not-settles.false) (ap not waits) refl
    (settle-makes st c.args.number c.args.status _ c.in_ok-outcome.outcome (c.in_ok-outcome.ensures.makes Done)) (message-row st c.args.number there, c.in_ok-outcome.ensures.fits) refl
