use Rattle.std.proofs.Common.{◌≡◌, ℕ, ◌+◌, ◌≤◌, List, length, true, refl, sym, ◌∙◌, subst}
use Rattle.ocm_rules.specs.declared.rows.Message.{Message}
use Rattle.ocm_rules.specs.declared.rows.SentRow.{SentRow}
use Rattle.ocm_rules.specs.State.{State, changed_at}
use Rattle.ocm_tables.specs.declared.changes.TableChange.{TableChange}
use Rattle.ocm_tables.specs.declared.changes.TableChange.TheVariants as changes
use Rattle.ocm_tables.specs.declared.changes.Outcome.{Outcome}
use Rattle.ocm_tables.specs.declared.changes.Outcome.TheVariants as outcomes
use Rattle.ocm_tables.specs.Changes.{HasNumbers, acted, with_outcome}
use Rattle.ocm_tables.proofs.Joins.{changed_at-length}

outcome-sent : (st : State) (outcome : Outcome) → length (with_outcome st outcome).sent ≡ length st.sent
outcome-sent st outcomes.Nothing = refl
outcome-sent st (outcomes.SetPhase number phase) = refl
outcome-sent st (outcomes.SetState request state) = refl

-- a change adds no message
pub acted-sent : (st : State) (change : TableChange) → length (acted st change).sent ≡ length st.sent
acted-sent st changes.Nothing = refl
acted-sent st (changes.Advance clock) = refl
acted-sent st (changes.AddUser user) = refl
acted-sent st (changes.Put node) = refl
acted-sent st (changes.Remove place) = refl
acted-sent st (changes.Carry carry) = refl
acted-sent st (changes.AddShare share) = refl
acted-sent st (changes.Close id) = refl
acted-sent st (changes.Limit id perms) = refl
acted-sent st (changes.Expire id until) = refl
acted-sent st (changes.Receive offer) = refl
acted-sent st (changes.SetPhase number phase) = refl
acted-sent st (changes.AddRequest request) = refl
acted-sent st (changes.TakeBack request) = refl
acted-sent st (changes.GiveUp mark) = refl
acted-sent st (changes.Tell numbers serial perms) = refl
acted-sent st (changes.Settle number outcome) =
    let settled : State = record st { sent = changed_at number (λ (row : SentRow). record row { settled = true }) st.sent } in
    outcome-sent settled outcome ∙ changed_at-length number (λ (row : SentRow). record row { settled = true }) st.sent

-- so there are numbers left as before it
pub numbers-after : (st : State) (change : TableChange) (messages : List Message) → HasNumbers st messages → HasNumbers (acted st change) messages
numbers-after st change messages few = let P : ℕ → Type 0 = λ n. n + length messages ≤ 1048576 in subst P (sym (acted-sent st change)) few
