-- Calls that are all calls of a history.
use Rattle.std.proofs.Common.{◌≡◌, ℕ, ◌<◌, List, [], ◌∷◌, length, Bool, cond, Some, sym, refl, ap, subst, ◌∙◌, arith, ne_eqb, false}
use Rattle.std.specs.Prelude.{nat_eq}
use Rattle.ocm_entry.specs.declared.entries.Entry.{Entry}
use Rattle.ocm_turn.specs.declared.view.Call.{Call}
use Rattle.ocm_turn.specs.Calls.{entry_at, Each, StandIn}
use Rattle.ocm_turn.specs.Laws.{AllCallsAreTheHistory}
use Rattle.ocm_turn.proofs.CallLemmas.{inside, at_front, length_in_order}
use Rattle.ocm_turn.proofs.ViewLemmas.{same_some}

-- calls below the newest entry stand in the history before it
stand_before : (h : List Entry) (e : Entry) (cs : List Call) → Each (λ c. c.place < length h) cs → StandIn (e ∷ h) cs → StandIn h cs
stand_before h e [] low stand = tt
stand_before h e (c ∷ cs) low stand =
    let below : c.place < length h = low.0 in
    let other : nat_eq c.place (length h) ≡ false = ne_eqb c.place (length h) (λ same. omega (arith, below, same)) in
    (sym (ap (λ (b : Bool). cond b (Some e) (entry_at h c.place)) other) ∙ stand.0, stand_before h e cs low.1 stand.1)

pub all_are_the_history : AllCallsAreTheHistory
all_are_the_history [] [] stand order n = refl
all_are_the_history [] (c ∷ cs) stand order n = absurd (omega (arith, n))
all_are_the_history (e ∷ h) [] stand order n = absurd (omega (arith, n))
all_are_the_history (e ∷ h) (c ∷ cs) stand order n =
    let below = inside (e ∷ h) c.place c.entry stand.0 in
    let few = length_in_order cs c.place order.1 order.0 in
    let last : c.place ≡ length h = omega (arith, below, few, n) in
    let newest : e ≡ c.entry = same_some e c.entry (sym (at_front h e) ∙ (ap (entry_at (e ∷ h)) (sym last) ∙ stand.0)) in
    let before = all_are_the_history h cs (stand_before h e cs (subst (λ (k : ℕ). Each (λ d. d.place < k) cs) last order.0) stand.1) order.1 (omega (arith, n)) in
    λ i. sym newest i ∷ before i
