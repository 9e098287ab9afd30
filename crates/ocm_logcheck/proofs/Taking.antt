-- How lists go on by a tick.
use Rattle.std.proofs.Common.{◌≡◌, ℕ, ◌<◌, List, ◌∷◌, Bool, true, ap, ◌∙◌, subst, Result, Ok}
use Rattle.std.specs.Prelude.{IfOk}
use Rattle.ocm_entry.specs.declared.asks.Ask.TheVariants.{Tick}
use Rattle.ocm_entry.specs.declared.entries.Entry.{Entry}
use Rattle.ocm_rules.specs.State.{State}
use Rattle.ocm_core.specs.Standing.{IsAfter}
use Rattle.ocm_core.proofs.Taking.{if-ok-of}
use Rattle.ocm_law_sessions.specs.Sessions.{heard, would_change}
use Rattle.ocm_logcheck.proofs.Behind.{TakesTick, tick-changes}

pub if-ok-at : {A E : Type 0} (r : Result A E) (P : A → Type 0) (a : A) → IfOk r P → r ≡ Ok a → P a
if-ok-at r P a holds is = subst (λ x. IfOk x P) is holds

pub if-ok : {E : Type 0} (r : Result Bool E) (P Q : Bool → Type 0) → ((b : Bool) → P b → Q b) → IfOk r P → IfOk r Q
if-ok r P Q step holds = if-ok-of r P Q step holds

-- a tick above the moment of the lists is taken
pub takes-tick : {E : Type 0} (st new : State) (clock : ℕ) (r : Result Bool E) (taken : Bool) → r ≡ Ok taken → st.moment < clock → ((g : List Entry) → IsAfter st g → taken ≡ would_change st.host g (Tick clock))
    → ((g : List Entry) → IsAfter st g → r ≡ Ok true → IsAfter new (heard st.host g (Tick clock) ∷ g)) → TakesTick st new clock
takes-tick st new clock r taken was above tells goes =
    λ g after. goes g after (was ∙ ap (λ b. Ok b) (tells g after ∙ tick-changes st g clock after above))
