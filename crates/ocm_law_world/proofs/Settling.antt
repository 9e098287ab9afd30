-- A status that says neither yes nor no settles nothing.
use Rattle.std.proofs.Common.{◌≡◌, ℕ, List, Bool, true, false, ◌||◌, not, refl, sym, ap, subst}
use Rattle.std.specs.Prelude.{Option, Some, None, ◌⊎◌, ◌∷◌, if◌then◌else◌}
use mathlib.Core.Logic.{inl, inr}
use Rattle.ocm_types.specs.declared.letters.Letter.{Letter}
use Rattle.ocm_entry.specs.declared.asks.Ask.{Ask}
use Rattle.ocm_entry.specs.declared.asks.Ask.TheVariants as asks
use Rattle.ocm_entry.specs.declared.refusals.Why.TheVariants.{NotFound}
use Rattle.ocm_entry.specs.declared.replies.Reply.{Reply}
use Rattle.ocm_entry.specs.declared.replies.Reply.TheVariants as replies
use Rattle.ocm_rules.specs.declared.rows.Message.{Message}
use Rattle.ocm_rules.specs.Answers.{refused, settle_reply}
use Rattle.ocm_rules.specs.History.{answer, changes_in}
use Rattle.ocm_rules.specs.Numbers.{at_number}
use Rattle.ocm_rules.specs.Settlements.{is_refusal, is_success, settles}
use Rattle.ocm_rules.specs.Views.{View}
use Rattle.ocm_rules.proofs.Searches.{neither}
use Rattle.ocm_law_sessions.specs.Sessions.{IsReply, IsToldReply, fault_in, fits}
use Rattle.ocm_law_world.specs.World.{Session, history_of, is_settlement, kept_at, with_call}
use Rattle.ocm_law_world.specs.Guests.{view_at}

settles-not : (letter : Letter) (status : ℕ) (id : Option (List ℕ)) → (is_success status || is_refusal status) ≡ false → settles letter status id ≡ false
settles-not letter status id none = let parts = neither (is_success status) (is_refusal status) none in rw (parts.0, parts.1) refl

-- what is told of such a settlement, if memory is not wanting; it changes nothing
abbrev pub IsIdle : View → Ask → Reply → Type 0
IsIdle v ask reply = ((reply ≡ refused NotFound) ⊎ (reply ≡ replies.Done) ⊎ (reply ≡ replies.Left) ⊎ (reply ≡ replies.NoMemory)) × (changes_in v ask reply ≡ false)

idle : (v : View) (number status : ℕ) (id : Option (List ℕ)) → (is_success status || is_refusal status) ≡ false
    → IsIdle v (asks.Settle number status id) (settle_reply (at_number v.messages number) (v.is_settled number) status id)
idle v number status id none = by_case (at_number v.messages number) (v.is_settled number) refl
  where
    by_case : (o : Option Message) (settled : Bool) → v.is_settled number ≡ settled → IsIdle v (asks.Settle number status id) (settle_reply o settled status id)
    by_case None settled e = (inl refl, refl)
    by_case (Some message) true e = (inr (inl refl), ap not e)
    by_case (Some message) false e =
        subst (λ b. IsIdle v (asks.Settle number status id) (if b then replies.Done else replies.Left)) (sym (settles-not message.letter status id none)) (inr (inr (inl refl)), refl)

pub nothing-settled : (host : List ℕ) (s : Session) (number status : ℕ) (id : Option (List ℕ)) (reply : Reply) → is_settlement (asks.Settle number status id) ≡ false
    → IsReply host s.area s.base s.calls (asks.Settle number status id) reply → IsIdle (view_at host s) (asks.Settle number status id) reply
nothing-settled host s number status id reply none (inl wanting) =
    subst (IsIdle (view_at host s) (asks.Settle number status id)) (sym wanting) (inr (inr (inr refl)), refl)
nothing-settled host s number status id reply none (inr told) =
    let ask : Ask = asks.Settle number status id in
    let of_rules = idle (view_at host s) number status id none in
    let P : Bool → Type 0 = λ b. IsToldReply b (fault_in s.calls) (fits host s.area (history_of s) ask) (answer host (history_of s) ask) reply in
    let same : reply ≡ answer host (history_of s) ask = subst P of_rules.1 told in
    subst (IsIdle (view_at host s) ask) (sym same) of_rules

-- a call that changes nothing leaves what is kept
pub same-kept : (host : List ℕ) (s : Session) (ask : Ask) (reply : Reply) → changes_in (view_at host s) ask reply ≡ false → kept_at host (with_call s ask reply) ≡ kept_at host s
same-kept host s ask reply none = ap (λ b. if b then record { ask = ask; reply = reply } ∷ kept_at host s else kept_at host s) none
