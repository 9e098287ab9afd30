use Rattle.std.proofs.Common.{Some, true, option_copied, sym, ap, ◌∙◌}
use Rattle.std.proofs.lemmas.Result.{IfOk-weaker}
use Rattle.ocm_rules.specs.declared.rows.SentRow.{SentRow}
use Rattle.ocm_rules.specs.declared.rows.Subject.{Subject}
use Rattle.ocm_rules.specs.declared.rows.Subject.TheVariants as subjects
use Rattle.ocm_rules.specs.Numbers.{at_number}
use Rattle.ocm_rules.specs.Settlements.{is_acceptance, wants_id}
use Rattle.ocm_rules.specs.State.{changed_at, view_in}
use Rattle.ocm_rules_steps.proofs.OtherSteps.{settle-acceptance, settle-request}
use Rattle.ocm_plan_peers.proofs.Settling.{message-about, no-subject, settled-record, settled-request, settled-share}
use Rattle.ocm_plan_peers.proofs.settlements.outcome_of.Goals as goal

pub returns-then-is_acceptance-clause-makes : goal.returns-then-is_acceptance-clause-makes
returns-then-is_acceptance-clause-makes c = λ reply.
    let st = c.args.tables.now.state in
    let about = message-about (at_number (view_in st).messages c.args.number) c.args.letter.now (subjects.Received c.in-Some-Received.record) c.requires (ap (λ (s : Subject). Some s) (sym c.in-Some-Received.field-0-is) ∙ (sym c.in-Some-Received.is ∙ c.subject.ensures)) in
    c.phase_answered.ensures.makes (changed_at c.args.number (λ (row : SentRow). record row { settled = true }) st.sent)
    ∙ sym (settle-acceptance st c.args.number c.args.status (option_copied c.args.id) reply about.0 c.in-Some-Received.record about.1 (ap is_acceptance about.2 ∙ (sym c.is_acceptance.ensures ∙ c.if-is_acceptance.true)) about.3)

pub returns-else-is_acceptance-clause-makes : goal.returns-else-is_acceptance-clause-makes
returns-else-is_acceptance-clause-makes c = λ reply.
    let st = c.args.tables.now.state in
    let about = message-about (at_number (view_in st).messages c.args.number) c.args.letter.now (subjects.Received c.in-Some-Received.record) c.requires (ap (λ (s : Subject). Some s) (sym c.in-Some-Received.field-0-is) ∙ (sym c.in-Some-Received.is ∙ c.subject.ensures)) in
    settled-record st c.args.number c.args.status (option_copied c.args.id) reply about.0 c.in-Some-Received.record about.1 (ap is_acceptance about.2 ∙ (sym c.is_acceptance.ensures ∙ c.if-is_acceptance.false)) about.3

pub returns-then-wants_id-clause-makes : goal.returns-then-wants_id-clause-makes
returns-then-wants_id-clause-makes c = λ reply.
    let st = c.args.tables.now.state in
    let about = message-about (at_number (view_in st).messages c.args.number) c.args.letter.now (subjects.Request c.in-Some-Request.request) c.requires (ap (λ (s : Subject). Some s) (sym c.in-Some-Request.field-0-is) ∙ (sym c.in-Some-Request.is ∙ c.subject.ensures)) in
    let step = settle-request st c.args.number c.args.status (option_copied c.args.id) reply about.0 c.in-Some-Request.request about.1 (ap wants_id about.2 ∙ (sym c.wants_id.ensures ∙ c.if-wants_id.true)) about.3 in
    IfOk-weaker c.state_answered.result _ _ (λ outcome makes. makes ∙ sym step) (c.state_answered.ensures.makes (changed_at c.args.number (λ (row : SentRow). record row { settled = true }) st.sent))

pub returns-else-wants_id-clause-makes : goal.returns-else-wants_id-clause-makes
returns-else-wants_id-clause-makes c = λ reply.
    let st = c.args.tables.now.state in
    let about = message-about (at_number (view_in st).messages c.args.number) c.args.letter.now (subjects.Request c.in-Some-Request.request) c.requires (ap (λ (s : Subject). Some s) (sym c.in-Some-Request.field-0-is) ∙ (sym c.in-Some-Request.is ∙ c.subject.ensures)) in
    settled-request st c.args.number c.args.status (option_copied c.args.id) reply about.0 c.in-Some-Request.request about.1 (ap wants_id about.2 ∙ (sym c.wants_id.ensures ∙ c.if-wants_id.false)) about.3

pub returns-in-Some-Share-clause-makes : goal.returns-in-Some-Share-clause-makes
returns-in-Some-Share-clause-makes c = λ reply.
    let st = c.args.tables.now.state in
    let about = message-about (at_number (view_in st).messages c.args.number) c.args.letter.now c.in-Some-Share.field-0 c.requires (sym c.in-Some-Share.is ∙ c.subject.ensures) in
    settled-share st c.args.number c.args.status (option_copied c.args.id) reply about.0 _ about.1 (about.3 ∙ c.in-Some-Share.field-0-is)

pub returns-in-None-clause-makes : goal.returns-in-None-clause-makes
returns-in-None-clause-makes c = λ reply.
    let st = c.args.tables.now.state in
    absurd (no-subject (at_number (view_in st).messages c.args.number) c.args.letter.now c.requires (sym c.in-None.is ∙ c.subject.ensures))
