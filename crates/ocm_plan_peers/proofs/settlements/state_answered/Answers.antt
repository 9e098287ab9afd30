use Rattle.std.proofs.Common.{option_copied, sym, ap, ◌∙◌}
use Rattle.ocm_entry.specs.declared.rows.Request.{Request}
use Rattle.ocm_rules.specs.Numbers.{at_number}
use Rattle.ocm_rules.specs.State.{is_asked}
use Rattle.ocm_plan_peers.proofs.Settling.{no-row, one-row, state-stays, state-changes}
use Rattle.ocm_plan_peers.proofs.settlements.state_answered.Goals as goal

pub returns-in_default-clause-makes : goal.returns-in_default-clause-makes
returns-in_default-clause-makes c = λ sent.
    let st = c.args.tables.now.state in
    state-stays st c.args.request c.args.status (option_copied c.args.id) sent (λ row there. absurd (no-row (at_number st.requests c.args.request) row (sym (ap option_copied c.in_default.is) ∙ c.request.ensures) there))

pub returns-then-not-is_asked-clause-makes : goal.returns-then-not-is_asked-clause-makes
returns-then-not-is_asked-clause-makes c = λ sent.
    let st = c.args.tables.now.state in
    state-stays st c.args.request c.args.status (option_copied c.args.id) sent (λ row there.
    ap (λ (r : Request). is_asked r.state) (sym (one-row (at_number st.requests c.args.request) c.in-Some.row.now row (sym (ap option_copied c.in-Some.is) ∙ c.request.ensures) there)) ∙ (sym c.is_asked.ensures ∙ c.if-not-is_asked.true))

pub returns-clause-makes : goal.returns-clause-makes
returns-clause-makes c = λ sent.
    let st = c.args.tables.now.state in
    state-changes st c.args.request c.args.status (option_copied c.args.id) c.in_ok-state.state sent
    (λ row there.
    ap (λ (r : Request). is_asked r.state) (sym (one-row (at_number st.requests c.args.request) c.in-Some.row.now row (sym (ap option_copied c.in-Some.is) ∙ c.request.ensures) there)) ∙ (sym c.is_asked.ensures ∙ c.if-not-is_asked.false))
    c.in_ok-state.ensures
