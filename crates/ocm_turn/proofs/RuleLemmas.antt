-- What each step needs of the rule.
use Rattle.std.proofs.Common.{◌≡◌, ℕ, ◌<◌, ◌≤◌, inl, inr, ⊎_elim, List, [], ◌∷◌, length, set, sym, ap, ◌∙◌, subst, arith, true, false, Option, Some}
use mathlib.Core.Option as home
use lib.ListN.{get_elem?}
use Rattle.atomic_table.specs.Table.{State}
use Rattle.ocm_entry.specs.declared.entries.Entry.{Entry}
use Rattle.ocm_turn.specs.declared.behind.Behind.{Behind}
use Rattle.ocm_turn.specs.declared.view.Call.{Call}
use Rattle.ocm_turn.specs.declared.view.View.{View}
use Rattle.ocm_turn.specs.declared.view.Stage.TheVariants.{Named}
use Rattle.ocm_turn.specs.Calls.{IsOlderPart, Disjoint}
use Rattle.ocm_turn.specs.Rule.{newcomer, Fits, Sees, EachView, SomeView, StandsBehind, Rule, Kept, Opened, Holds}
use Rattle.ocm_turn.specs.Steps.{Sound, settled}
use Rattle.ocm_turn.proofs.CallLemmas.{stand_below, length_in_order, older_length, older_through}
use Rattle.ocm_turn.proofs.ViewLemmas.{alone, new_named, no_ticket, not_both, some_set, each_set, one_hand_set, apart_set}
use Rattle.ocm_turn.proofs.HeldLemmas.{held_set}

module _ {G M : Type 0} (limit : ℕ) (terms : G) (base history : List Entry) (moments : List ℕ) (awaited : Option M) (over next : ℕ) (v : View G M) (fits : Fits limit terms base history moments awaited over next v) where
  pub sound_of : Sound v
  sound_of = record { heard = fits.heard; heard_noted = fits.heard_noted; paired = fits.paired; mine = fits.mine; order = fits.order; met = fits.met }

  -- a view has no more calls than the history
  pub few : length v.mine ≤ length history
  few =
      let a = length_in_order v.mine (length v.seen) fits.order (stand_below v.seen v.mine fits.mine) in
      let b = older_length v.seen history fits.seen in
      omega (arith, a, b)

  -- without what changes from turn to turn it agrees too
  settle : Fits limit terms base history moments awaited over next (settled v)
  settle = record {
    stage = fits.stage;
    limit_is = fits.limit_is;
    base_is = fits.base_is;
    terms_are = fits.terms_are;
    met = fits.met;
    seen = fits.seen;
    noted = fits.noted;
    paired = fits.paired;
    heard = fits.heard;
    heard_noted = fits.heard_noted;
    mine = fits.mine;
    order = fits.order;
    drawn = fits.drawn;
    ticket = λ t e. absurd (no_ticket t e);
    turn = λ e. absurd (not_both e);
    spent = fits.spent;
  }

-- a view that differs only in what changes from turn to turn, at a later history
module _ {G M : Type 0} (limit : ℕ) (terms : G) (base history later : List Entry) (moments later_moments : List ℕ) (awaited awaits : Option M) (over next over' next' : ℕ) (v w : View G M) where
  pub refit : Fits limit terms base history moments awaited over next v → IsOlderPart history later → IsOlderPart moments later_moments → settled w ≡ settled v
      → ((t : ℕ) → w.ticket ≡ Some t → (over' ≤ t) × (t < next')) → (w.turn ≡ true → (w.ticket ≡ Some over') × (w.found ≡ later) × (w.found_moments ≡ later_moments) × (w.lent ≡ awaits))
      → Fits limit terms base later later_moments awaits over' next' w
  refit f older older_moments same ticket turn =
      let s : Fits limit terms base history moments awaited over next (settled w) = subst (Fits limit terms base history moments awaited over next) (sym same) (settle limit terms base history moments awaited over next v f) in
      record {
        stage = s.stage;
        limit_is = s.limit_is;
        base_is = s.base_is;
        terms_are = s.terms_are;
        met = s.met;
        seen = older_through w.seen history later s.seen older;
        noted = older_through w.moments moments later_moments s.noted older_moments;
        paired = s.paired;
        heard = s.heard;
        heard_noted = s.heard_noted;
        mine = s.mine;
        order = s.order;
        drawn = let d = s.drawn in let n = older_length history later older in omega (arith, d, n);
        ticket = ticket;
        turn = turn;
        spent = s.spent;
      }

module _ {T G M : Type 0} (terms_of : T → G) (stands : T → List Entry → List Entry → List ℕ → Type 0) (legal : G → List Entry → List Entry → Type 0) (awaited_of : T → Option M) (limit : ℕ) where
  -- a named view shows that the rule holds in full
  pub kept_at : (value : T) (s : State (Option (Behind T)) (View G M)) → Holds terms_of stands legal awaited_of limit value s → (id : ℕ) (v : View G M) → Sees s.views id v → v.stage ≡ Named → Kept terms_of stands legal awaited_of limit (terms_of value) s
  kept_at value s given id v at named = ⊎_elim
      (λ (o : Opened terms_of stands legal awaited_of limit (terms_of value) value s).
      let first = alone id (newcomer limit (terms_of value)) v (ap (λ (vs : List (View G M)). get_elem? vs id) (sym o.views) ∙ at) in
      absurd (new_named (ap (λ (y : View G M). y.stage) first.0 ∙ named)))
      (λ (k : Kept terms_of stands legal awaited_of limit (terms_of value) s). k) given

  -- a view with the same ticket, turn and mark in place of another
  pub replaced : (terms : G) (base history : List Entry) (moments : List ℕ) (awaited : Option M) (over next : ℕ) (homes : List (home.Option (Option (Behind T)))) (views : List (View G M)) (id : ℕ) (v w : View G M)
      → Rule terms_of stands legal awaited_of limit terms base history moments awaited over next homes views → Sees views id v → w.ticket ≡ v.ticket → w.turn ≡ v.turn → w.held ≡ v.held → w.stage ≡ v.stage → w.seen ≡ v.seen → w.mine ≡ v.mine
      → Fits limit terms base history moments awaited over next w → Rule terms_of stands legal awaited_of limit terms base history moments awaited over next homes (set views id w)
  replaced terms base history moments awaited over next homes views id v w h at ticket turn held stage seen mine fits = record {
    order = h.order;
    tickets = h.tickets;
    paired = h.paired;
    bounded = h.bounded;
    room = h.room;
    lawful = h.lawful;
    each = each_set views id v w at (Fits limit terms base history moments awaited over next) (Fits limit terms base history moments awaited over next) (λ j u _ _ f. f) fits h.each;
    waiting = λ t low high. some_set views id v w at (λ u. u.ticket ≡ Some t) (λ e. ticket ∙ e) (h.waiting t low high);
    one_hand = one_hand_set views id v w at h.one_hand (λ t j u has other at' theirs. other (h.one_hand j id u v t at' at theirs (sym ticket ∙ has)));
    apart = apart_set views id v w at h.apart (λ j u other at'. subst (λ (cs : List Call). Disjoint cs u.mine) (sym mine) (h.apart id j v u (λ e. other (sym e)) at at'));
    told = some_set views id v w at (λ u. (u.stage ≡ Named) × (u.seen ≡ history)) (λ p. (stage ∙ p.0, seen ∙ p.1)) h.told;
    held = held_set views id v w at awaited held h.held;
    at_home = ⊎_elim
        (λ (m : (behind : Behind T) × (homes ≡ home.some (Some behind) ∷ []) × StandsBehind terms_of stands awaited_of terms base history moments awaited behind × EachView views (λ u. u.turn ≡ false)).
        inl (m.0, m.1, m.2, each_set views id v w at (λ u. u.turn ≡ false) (λ u. u.turn ≡ false) (λ j u _ _ f. f) (turn ∙ m.3 id v at) m.3))
        (λ (m : (homes ≡ home.none ∷ []) × SomeView views (λ u. u.turn ≡ true)). inr (m.0, some_set views id v w at (λ u. u.turn ≡ true) (λ e. turn ∙ e) m.1)) h.at_home;
  }
