-- A try to draw a ticket keeps the rule.
use Rattle.std.proofs.Common.{◌≡◌, ℕ, ◌+◌, ◌^◌, ◌<◌, eqb, inl, inr, ⊎_elim, List, [], ◌∷◌, length, get_or, set, refl, sym, ap, ◌∙◌, subst, arith, true, false, Option, Some, None, eq-eqb, ne_eqb}
use mathlib.Core.Logic.{dite}
use mathlib.Core.Option as home
use native.Mathlib.Decide.{ℕ_discrete}
use prog.Atomic.{either}
use Rattle.atomic_table.specs.Table.{State, Me, step, keeps, stepped, Allows}
use Rattle.atomic_table.proofs.Lists.{set_again}
use Rattle.ocm_entry.specs.declared.entries.Entry.{Entry}
use Rattle.ocm_turn.specs.declared.behind.Behind.{Behind}
use Rattle.ocm_turn.specs.declared.view.View.{View}
use Rattle.ocm_turn.specs.declared.view.Stage.TheVariants.{Named}
use Rattle.ocm_turn.specs.Rule.{Fits, Sees, EachView, SomeView, StandsBehind, Tally, Rule, Kept, Holds}
use Rattle.ocm_turn.specs.Steps.{ticketed, draws}
use Rattle.ocm_turn.proofs.CallLemmas.{older_self}
use Rattle.ocm_turn.proofs.ViewLemmas.{same_some, no_ticket, not_both, here_again, some_set, each_set, one_hand_set, apart_set}
use Rattle.ocm_turn.proofs.HeldLemmas.{held_set}
use Rattle.ocm_turn.proofs.RuleLemmas.{kept_at, refit}
use Rattle.ocm_turn.proofs.TallyLemmas.{tally_set}

module _ {T G M : Type 0} (terms_of : T → G) (stands : T → List Entry → List Entry → List ℕ → Type 0) (legal : G → List Entry → List Entry → Type 0) (awaited_of : T → Option M) (limit : ℕ) where
  -- a new ticket
  drew : (terms : G) (base history : List Entry) (moments : List ℕ) (awaited : Option M) (over next : ℕ) (homes : List (home.Option (Option (Behind T)))) (views : List (View G M)) (id : ℕ) (v : View G M)
      → Rule terms_of stands legal awaited_of limit terms base history moments awaited over next homes views → Sees views id v → v.ticket ≡ None → v.turn ≡ false → next + 1 < 2 ^ 64
      → Rule terms_of stands legal awaited_of limit terms base history moments awaited over (next + 1) homes (set views id (ticketed v next))
  drew terms base history moments awaited over next homes views id v h at none off small =
      let w : View G M = ticketed v next in
      let order = h.order in
      let F : View G M → Type 0 = Fits limit terms base history moments awaited over next in
      let F' : View G M → Type 0 = Fits limit terms base history moments awaited over (next + 1) in
      let later : (u : View G M) → F u → F' u = λ u f. refit limit terms base history history moments moments awaited awaited over next over (next + 1) u u f (older_self history) (older_self moments) refl
      (λ t e. let p = f.ticket t e in (p.0, let q = p.1 in omega (arith, q))) f.turn in
      let mine : F' w = refit limit terms base history history moments moments awaited awaited over next over (next + 1) v w (h.each id v at) (older_self history) (older_self moments) refl
      (λ t e. let q : next ≡ t = same_some next t e in (omega (arith, q, order), omega (arith, q)))
      (λ on. absurd (not_both (sym off ∙ on))) in
      record {
        order = omega (arith, order);
        tickets = small;
        paired = h.paired;
        bounded = h.bounded;
        room = h.room;
        lawful = h.lawful;
        each = each_set views id v w at F F' (λ j u _ _ f. later u f) mine h.each;
        waiting = λ t low high. dite (ℕ_discrete t next)
            (λ here. (id, w, here_again views id v w at, ap Some (sym here)))
            (λ other. some_set views id v w at (λ u. u.ticket ≡ Some t) (λ e. absurd (no_ticket t (sym none ∙ e))) (h.waiting t low (omega (arith, high, other))));
        one_hand = one_hand_set views id v w at h.one_hand (λ t j u has _ at' theirs. let q : next ≡ t = same_some next t has in let r = ((h.each j u at').ticket t theirs).1 in omega (arith, q, r));
        apart = apart_set views id v w at h.apart (λ j u other at'. h.apart id j v u (λ e. other (sym e)) at at');
        told = some_set views id v w at (λ u. (u.stage ≡ Named) × (u.seen ≡ history)) (λ p. p) h.told;
        held = held_set views id v w at awaited refl h.held;
        at_home = ⊎_elim
            (λ (m : (behind : Behind T) × (homes ≡ home.some (Some behind) ∷ []) × StandsBehind terms_of stands awaited_of terms base history moments awaited behind × EachView views (λ u. u.turn ≡ false)).
            inl (m.0, m.1, m.2, each_set views id v w at (λ u. u.turn ≡ false) (λ u. u.turn ≡ false) (λ j u _ _ f. f) off m.3))
            (λ (m : (homes ≡ home.none ∷ []) × SomeView views (λ u. u.turn ≡ true)). inr (m.0, some_set views id v w at (λ u. u.turn ≡ true) (λ e. e) m.1)) h.at_home;
      }

  -- a new word 0 and view
  moved : (terms : G) (s : State (Option (Behind T)) (View G M)) (k : Kept terms_of stands legal awaited_of limit terms s) (n id : ℕ) (held : List (ℕ × Option (Behind T))) (w : View G M)
      → Rule terms_of stands legal awaited_of limit terms k.base k.history k.moments k.awaited k.over n s.homes (set s.views id w) → Tally (length k.history) (set s.views id w)
      → Kept terms_of stands legal awaited_of limit terms (stepped s 0 n id held w keeps)
  moved terms s k n id held w rule tally = record {
    base = k.base;
    history = k.history;
    moments = k.moments;
    awaited = k.awaited;
    over = k.over;
    next = n;
    rest = k.rest;
    words = ap (λ (ws : List ℕ). set ws 0 n) k.words;
    rule = rule;
    tally = tally;
  }

  pub draws_keep : (value : T) (n slots id : ℕ) (me : Me (Option (Behind T)) (View G M)) → n + 1 < 2 ^ 64 → me.0.ticket ≡ None → me.0.turn ≡ false → me.0.stage ≡ Named
      → Allows (Holds terms_of stands legal awaited_of limit value) slots id me 0 (λ x. either (eqb x n) (n + 1) x) (draws (step slots 0 n (n + 1) home.none) me)
  draws_keep value n slots id me small none off named s given _ at _ =
      let terms : G = terms_of value in
      let k = kept_at terms_of stands legal awaited_of limit value s given id me.0 at named in
      let R : ℕ → List (View G M) → Type 0 = λ m vs. Rule terms_of stands legal awaited_of limit terms k.base k.history k.moments k.awaited k.over m s.homes vs in
      let K : State (Option (Behind T)) (View G M) → Type 0 = Kept terms_of stands legal awaited_of limit terms in
      let x : ℕ = get_or s.words 0 0 in
      let is_next : x ≡ k.next = ap (λ (ws : List ℕ). get_or ws 0 0) k.words in
      let v : View G M = me.0 in
      dite (ℕ_discrete x n)
      (λ hit. let to_next : k.next ≡ n = sym is_next ∙ hit in (
        ticketed v x,
        keeps,
        tt,
        inr (subst (λ b. K (stepped s 0 (either b (n + 1) x) id me.1 (ticketed v x) keeps)) (sym (eq-eqb x n hit))
            (moved terms s k (n + 1) id me.1 (ticketed v x)
            (subst (λ (z : ℕ × ℕ). R (z.0 + 1) (set s.views id (ticketed v z.1))) (λ i. (to_next i, sym is_next i))
            (drew terms k.base k.history k.moments k.awaited k.over k.next s.homes s.views id v k.rule at none off (omega (arith, to_next, small))))
            (tally_set s.views id v (ticketed v x) at (length k.history) (length k.history) refl refl refl k.tally))),
        (refl, (λ _. refl), λ miss. absurd (miss hit)),
      ))
      (λ miss. (
        v,
        keeps,
        tt,
        inr (subst (λ b. K (stepped s 0 (either b (n + 1) x) id me.1 v keeps)) (sym (ne_eqb x n miss))
            (moved terms s k x id me.1 v
            (subst (λ (z : ℕ × List (View G M)). R z.0 z.1) (λ i. (sym is_next i, sym (set_again s.views id v at) i)) k.rule)
            (subst (Tally (length k.history)) (sym (set_again s.views id v at)) k.tally))),
        (refl, (λ hit. absurd (miss hit)), λ _. refl),
      ))
