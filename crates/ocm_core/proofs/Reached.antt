-- The lists of a server are those of some legal history, whose messages have numbers.
use Rattle.std.proofs.Common.{◌≡◌, ◌+◌, ◌≤◌, ◌∷◌, List, length, map, sym, ap, ◌∙◌, subst}
use Rattle.std.proofs.lemmas.List.{length-map, length-append}
use Rattle.ocm_entry.specs.declared.asks.Ask.{Ask}
use Rattle.ocm_entry.specs.declared.entries.Entry.{Entry}
use Rattle.ocm_rules.specs.declared.rows.SentRow.{SentRow}
use Rattle.ocm_rules.specs.History.{kept}
use Rattle.ocm_rules.specs.Messages.{out}
use Rattle.ocm_rules.specs.State.{State, new_sent_row}
use Rattle.ocm_rules.specs.Views.{View}
use Rattle.ocm_law_counts.proofs.Numbers.{messages-have-numbers}
use Rattle.ocm_tables.specs.Changes.{HasNumbers, acted, changed}
use Rattle.ocm_tables.proofs.Sending.{acted-sent}
use Rattle.ocm_plan.specs.Plans.{Plan, Plans}
use Rattle.ocm_core.specs.Standing.{IsAfter, IsPlanned, IsReached}
use Rattle.ocm_core.proofs.Standing.{IsAfter-answered, view-after}

-- as many messages stand in the lists as the history sent
sent-out : (st : State) (g : List Entry) → IsAfter st g → length st.sent ≡ length (out st.host (kept st.host g))
sent-out st g h = sym (length-map st.sent (λ (row : SentRow). row.message)) ∙ sym (ap (λ (v : View). length v.messages) (view-after st g h))

few-sent : (st : State) → IsReached st → length st.sent ≤ 1048576
few-sent st reached = subst (λ n. n ≤ 1048576) (sym (sent-out st reached.0 reached.1)) (messages-have-numbers st.host reached.0 reached.1.legal)

-- once a planned change is made, the lists are those of the history with its entry
pub reached-after : (st : State) (ask : Ask) (plan : Plan) → IsReached st → Plans st ask plan → IsReached (changed st plan.change plan.sent)
reached-after st ask plan reached plans =
    let entry : Entry = record { ask = ask; reply = plan.reply } in
    (entry ∷ reached.0, subst (λ (lists : State). IsAfter lists (entry ∷ reached.0)) (sym plans.change) (IsAfter-answered st reached.0 ask plan.reply reached.1 plans.reply))

-- so the messages of a plan have numbers
pub planned-numbers : (st : State) (plan : Plan) → IsReached st → IsPlanned st plan → HasNumbers st plan.sent
planned-numbers st plan reached planned =
    let all : length (changed st plan.change plan.sent).sent ≡ length st.sent + length plan.sent =
    length-append (acted st plan.change).sent (map new_sent_row plan.sent) ∙ ap (λ n. n + length (map new_sent_row plan.sent)) (acted-sent st plan.change) ∙ ap (λ n. length st.sent + n) (length-map plan.sent new_sent_row) in
    subst (λ n. n ≤ 1048576) all (few-sent (changed st plan.change plan.sent) (reached-after st planned.0 plan reached planned.1))
