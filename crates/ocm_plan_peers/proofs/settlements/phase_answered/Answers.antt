use Rattle.std.proofs.Common.{option_copied, sym, ap, ◌∙◌}
use Rattle.ocm_rules.specs.Numbers.{at_number}
use Rattle.ocm_rules.specs.State.{is_accepting}
use Rattle.ocm_plan_peers.proofs.Settling.{no-record, phase-stays, phase-changes, record-phase}
use Rattle.ocm_plan_peers.proofs.settlements.phase_answered.Goals as goal

pub returns-in_default-clause-makes : goal.returns-in_default-clause-makes
returns-in_default-clause-makes c = λ sent.
    let st = c.args.tables.now.state in
    phase-stays st c.args.number c.args.status sent (λ row there. absurd (no-record (at_number st.received c.args.number) row (sym (ap option_copied c.in_default.is) ∙ c.record.ensures) there))

pub returns-then-not-is_accepting-clause-makes : goal.returns-then-not-is_accepting-clause-makes
returns-then-not-is_accepting-clause-makes c = λ sent.
    let st = c.args.tables.now.state in
    phase-stays st c.args.number c.args.status sent (λ row there.
    ap is_accepting (record-phase (at_number st.received c.args.number) c.in-Some.record.now row (sym (ap option_copied c.in-Some.is) ∙ c.record.ensures) there) ∙ (sym c.is_accepting.ensures ∙ c.if-not-is_accepting.true))

pub returns-clause-makes : goal.returns-clause-makes
returns-clause-makes c = λ sent.
    let st = c.args.tables.now.state in
    phase-changes st c.args.number c.args.status c.answered-phase.result sent
    (λ row there.
    ap is_accepting (record-phase (at_number st.received c.args.number) c.in-Some.record.now row (sym (ap option_copied c.in-Some.is) ∙ c.record.ensures) there) ∙ (sym c.is_accepting.ensures ∙ c.if-not-is_accepting.false))
    c.answered-phase.ensures
