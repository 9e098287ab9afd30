-- What the end of any turn does to the rule.
use Rattle.std.proofs.Common.{◌≡◌, ℕ, ◌+◌, ◌%◌, ◌^◌, ◌<◌, ◌≤◌, ◌≢◌, inl, ⊎_elim, List, [], ◌∷◌, length, set, refl, sym, ap, ◌∙◌, arith, Bool, true, false, Option, Some, None}
use Rattle.std.proofs.Math.Nat.{mod-eq_of_lt}
use mathlib.Core.Option as home
use Rattle.ocm_entry.specs.declared.entries.Entry.{Entry}
use Rattle.ocm_turn.specs.declared.behind.Behind.{Behind}
use Rattle.ocm_turn.specs.declared.view.View.{View}
use Rattle.ocm_turn.specs.declared.view.Stage.TheVariants.{Named}
use Rattle.ocm_turn.specs.Calls.{IsOlderPart}
use Rattle.ocm_turn.specs.Rule.{Fits, Sees, EachView, SomeView, AllApart, IsHeld, StandsBehind, Rule}
use Rattle.ocm_turn.proofs.ViewLemmas.{same_some, no_ticket, not_both, some_set, each_set, one_hand_set}
use Rattle.ocm_turn.proofs.RuleLemmas.{refit}

-- the number of turns that are over grows by one
pub one_more : (n over next : ℕ) → n ≡ over → over < next → next < 2 ^ 64 → (n + 1) % 2 ^ 64 ≡ over + 1
one_more n over next is below small = mod-eq_of_lt (omega (arith, is, below, small)) ∙ omega (arith, is)

off_of : (b : Bool) → (b ≡ true → ⊥) → b ≡ false
off_of true n = absurd (n refl)
off_of false n = refl

module _ {T G M : Type 0} (terms_of : T → G) (stands : T → List Entry → List Entry → List ℕ → Type 0) (legal : G → List Entry → List Entry → Type 0) (awaited_of : T → Option M) (limit : ℕ) where
  module _ (terms : G) (base history : List Entry) (moments : List ℕ) (awaited : Option M) (over next : ℕ) (homes : List (home.Option (Option (Behind T)))) (views : List (View G M)) (id : ℕ) (v : View G M)
      (h : Rule terms_of stands legal awaited_of limit terms base history moments awaited over next homes views) (at : Sees views id v) (on : v.turn ≡ true) where
    has : v.ticket ≡ Some over
    has = ((h.each id v at).turn on).0

    pub below : over < next
    below = ((h.each id v at).ticket over has).1

    -- nobody else has this ticket
    not_other : (j : ℕ) (u : View G M) → j ≢ id → Sees views j u → u.ticket ≡ Some over → ⊥
    not_other j u other at' theirs = other (h.one_hand j id u v over at' at theirs has)

    pub empty : homes ≡ home.none ∷ []
    empty = ⊎_elim
        (λ (m : (behind : Behind T) × (homes ≡ home.some (Some behind) ∷ []) × StandsBehind terms_of stands awaited_of terms base history moments awaited behind × EachView views (λ u. u.turn ≡ false)). absurd (not_both (sym (m.3 id v at) ∙ on)))
        (λ (m : (homes ≡ home.none ∷ []) × SomeView views (λ u. u.turn ≡ true)). m.0) h.at_home

    module _ (later : List Entry) (later_moments : List ℕ) (awaits : Option M) (w : View G M) (older : IsOlderPart history later) (older_moments : IsOlderPart moments later_moments) where
      fits_others : (j : ℕ) (u : View G M) → j ≢ id → Sees views j u → Fits limit terms base history moments awaited over next u → Fits limit terms base later later_moments awaits (over + 1) next u
      fits_others j u other at' f = refit limit terms base history later moments later_moments awaited awaits over next (over + 1) next u u f older older_moments refl
          (λ t theirs. let p = f.ticket t theirs in let low = p.0 in
          let not_same : over ≢ t = λ same. not_other j u other at' (theirs ∙ ap Some (sym same)) in (omega (arith, low, not_same), p.1))
          (λ theirs. absurd (not_other j u other at' (f.turn theirs).0))

      -- the turn ends with this view and this value at home
      pub went : (behind : Behind T) → StandsBehind terms_of stands awaited_of terms base later later_moments awaits behind → legal terms base later
          → length later_moments ≡ length later → length later ≤ limit → (awaits ≢ None → length later < limit) → w.ticket ≡ None → w.turn ≡ false
          → Fits limit terms base later later_moments awaits (over + 1) next w → AllApart (set views id w) → SomeView (set views id w) (λ u. (u.stage ≡ Named) × (u.seen ≡ later)) → IsHeld awaits (set views id w)
          → Rule terms_of stands legal awaited_of limit terms base later later_moments awaits (over + 1) next (set homes 0 (home.some (Some behind))) (set views id w)
      went behind st ok paired bounded room none off fits parts told held = record {
        order = let b = below in omega (arith, b);
        tickets = h.tickets;
        paired = paired;
        bounded = bounded;
        room = room;
        lawful = ok;
        each = each_set views id v w at (Fits limit terms base history moments awaited over next) (Fits limit terms base later later_moments awaits (over + 1) next) fits_others fits h.each;
        waiting = λ t low high. some_set views id v w at (λ u. u.ticket ≡ Some t)
            (λ mine. let is : over ≡ t = same_some over t (sym has ∙ mine) in absurd (omega (arith, is, low))) (h.waiting t (omega (arith, low)) high);
        one_hand = one_hand_set views id v w at h.one_hand (λ t j u mine _ _ _. absurd (no_ticket t (sym none ∙ mine)));
        apart = parts;
        told = told;
        held = held;
        at_home = inl (
          behind,
          ap (λ (hs : List (home.Option (Option (Behind T)))). set hs 0 (home.some (Some behind))) empty,
          st,
          each_set views id v w at (λ u. Unit {0}) (λ u. u.turn ≡ false) (λ j u other at' _. off_of (u.turn) (λ theirs. not_other j u other at' ((h.each j u at').turn theirs).0)) off (λ _ _ _. tt),
        );
      }
