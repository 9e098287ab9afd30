-- A look at the number of turns that are over keeps the rule.
use Rattle.std.proofs.Common.{◌≡◌, ℕ, ◌≢◌, inr, ⊎_elim, List, [], ◌∷◌, length, get_or, set, refl, sym, ap, ◌∙◌, subst, true, false, Option, Some, None}
use mathlib.Core.Logic.{dite}
use mathlib.Core.Option as home
use mathlib.Core.Option.{some-injective}
use native.Mathlib.Decide.{ℕ_discrete}
use lib.ListN.{get_elem?}
use Rattle.atomic_table.specs.Table.{State, Me, Act, Valid, carried_after, step, keeps, takes, stepped, Allows}
use Rattle.atomic_table.proofs.Lists.{set_again}
use Rattle.ocm_entry.specs.declared.entries.Entry.{Entry}
use Rattle.ocm_turn.specs.declared.behind.Behind.{Behind}
use Rattle.ocm_turn.specs.declared.view.View.{View}
use Rattle.ocm_turn.specs.declared.view.Stage.TheVariants.{Named}
use Rattle.ocm_turn.specs.Rule.{Fits, Sees, EachView, SomeView, StandsBehind, Rule, Kept, Holds}
use Rattle.ocm_turn.specs.Steps.{turned_to, TurnCame, looks}
use Rattle.ocm_turn.proofs.CallLemmas.{older_self, stand_older}
use Rattle.ocm_turn.proofs.ViewLemmas.{same_some, no_ticket, not_both, here_again, some_set, each_set, one_hand_set, apart_set}
use Rattle.ocm_turn.proofs.HeldLemmas.{held_set, held_is}
use Rattle.ocm_turn.proofs.RuleLemmas.{kept_at, refit}
use Rattle.ocm_turn.proofs.TallyLemmas.{tally_set, all_mine}

module _ {T G M : Type 0} (terms_of : T → G) (stands : T → List Entry → List Entry → List ℕ → Type 0) (legal : G → List Entry → List Entry → Type 0) (awaited_of : T → Option M) (limit : ℕ) where
  -- the turn comes
  came : (terms : G) (base history : List Entry) (moments : List ℕ) (awaited : Option M) (over next : ℕ) (homes : List (home.Option (Option (Behind T)))) (views : List (View G M)) (id : ℕ) (v : View G M) (x : Behind T)
      → Rule terms_of stands legal awaited_of limit terms base history moments awaited over next homes views → Sees views id v → v.ticket ≡ Some over → homes ≡ home.some (Some x) ∷ []
      → Rule terms_of stands legal awaited_of limit terms base history moments awaited over next (set homes 0 home.none) (set views id (turned_to v history moments awaited))
  came terms base history moments awaited over next homes views id v x h at has here =
      let w : View G M = turned_to v history moments awaited in
      let F : View G M → Type 0 = Fits limit terms base history moments awaited over next in
      let old = h.each id v at in
      record {
        order = h.order;
        tickets = h.tickets;
        paired = h.paired;
        bounded = h.bounded;
        room = h.room;
        lawful = h.lawful;
        each = each_set views id v w at F F (λ j u _ _ f. f)
            (refit limit terms base history history moments moments awaited awaited over next over next v w old (older_self history) (older_self moments) refl old.ticket (λ _. (has, refl, refl, refl))) h.each;
        waiting = λ t low high. some_set views id v w at (λ u. u.ticket ≡ Some t) (λ e. e) (h.waiting t low high);
        one_hand = one_hand_set views id v w at h.one_hand (λ t j u mine other at' theirs. other (h.one_hand j id u v t at' at theirs mine));
        apart = apart_set views id v w at h.apart (λ j u other at'. h.apart id j v u (λ e. other (sym e)) at at');
        told = some_set views id v w at (λ u. (u.stage ≡ Named) × (u.seen ≡ history)) (λ p. p) h.told;
        held = held_set views id v w at awaited refl h.held;
        at_home = inr (ap (λ (hs : List (home.Option (Option (Behind T)))). set hs 0 home.none) here, (id, w, here_again views id v w at, refl));
      }

  -- at its turn a seat finds the value at home
  finds : (terms : G) (base history : List Entry) (moments : List ℕ) (awaited : Option M) (over next : ℕ) (homes : List (home.Option (Option (Behind T)))) (views : List (View G M)) (id : ℕ) (v : View G M)
      → Rule terms_of stands legal awaited_of limit terms base history moments awaited over next homes views → Sees views id v → v.ticket ≡ Some over → v.turn ≡ false
      → (behind : Behind T) × (homes ≡ home.some (Some behind) ∷ []) × StandsBehind terms_of stands awaited_of terms base history moments awaited behind × EachView views (λ u. u.turn ≡ false)
  finds terms base history moments awaited over next homes views id v h at has off = ⊎_elim (λ m. m)
      (λ (m : (homes ≡ home.none ∷ []) × SomeView views (λ u. u.turn ≡ true)).
      let u : View G M = m.1.1 in
      let theirs = ((h.each m.1.0 u m.1.2).turn m.1.3).0 in
      let same : m.1.0 ≡ id = h.one_hand m.1.0 id u v over m.1.2 at theirs has in
      let one : v ≡ u = some-injective v u (sym at ∙ (ap (get_elem? views) (sym same) ∙ m.1.2)) in
      absurd (not_both (sym off ∙ (ap (λ (z : View G M). z.turn) one ∙ m.1.3))))
      h.at_home

  -- what the seat has and knows when its turn has come
  turn_came : (value : T) (s : State (Option (Behind T)) (View G M)) (k : Kept terms_of stands legal awaited_of limit (terms_of value) s) (id : ℕ) (me : Me (Option (Behind T)) (View G M)) (behind : Behind T)
      → Sees s.views id me.0 → me.1 ≡ [] → me.0.stage ≡ Named → StandsBehind terms_of stands awaited_of (terms_of value) k.base k.history k.moments k.awaited behind
      → TurnCame terms_of stands legal awaited_of limit me (turned_to me.0 k.history k.moments k.awaited, (0, Some behind) ∷ me.1)
  turn_came value s k id me behind at empty named st =
      let h = k.rule in
      let v : View G M = me.0 in
      let old = h.each id v at in
      let based : v.base ≡ k.base = old.base_is named in
      let terms : terms_of behind.value ≡ terms_of value = st.terms_are in (
        refl,
        (
          behind,
          ap (λ (c : List (ℕ × Option (Behind T))). (0, Some behind) ∷ c) empty,
          old.terms_are named ∙ ap Some (sym terms),
          subst (λ (z : G × List Entry). StandsBehind terms_of stands awaited_of z.0 z.1 k.history k.moments k.awaited behind) (λ i. (sym terms i, sym based i)) st,
          subst (λ (z : G × List Entry). legal z.0 z.1 k.history) (λ i. (sym terms i, sym based i)) h.lawful,
        ),
        old.seen,
        old.noted,
        h.paired,
        stand_older v.seen k.history v.mine old.seen old.mine,
        old.order,
        old.drawn,
        h.bounded,
        h.room,
        λ mark has. held_is s.views id v v at k.awaited mark has h.held,
        λ all. all_mine s.views id v at (length k.history) k.tally (λ j u at'. (h.each j u at').spent) all,
      )

  looks_at : (value : T) (slots id : ℕ) (me : Me (Option (Behind T)) (View G M)) → me.0.turn ≡ false → me.0.stage ≡ Named → me.1 ≡ []
      → Allows (Holds terms_of stands legal awaited_of limit value) slots id me 1 (λ x. x) (looks terms_of stands legal awaited_of limit (step slots 1 0 0 home.none) me)
  looks_at value slots id me off named empty s given _ at _ =
      let terms : G = terms_of value in
      let k = kept_at terms_of stands legal awaited_of limit value s given id me.0 at named in
      let K : State (Option (Behind T)) (View G M) → Type 0 = Kept terms_of stands legal awaited_of limit terms in
      let x : ℕ = get_or s.words 1 0 in
      let is_over : x ≡ k.over = ap (λ (ws : List ℕ). get_or ws 1 0) k.words in
      let words_stay : set s.words 1 x ≡ k.next ∷ k.over ∷ k.rest = ap (set s.words 1) is_over ∙ ap (λ (ws : List ℕ). set ws 1 k.over) k.words in
      let v : View G M = me.0 in
      let h = k.rule in
      let Goal : Type 0 = (w : View G M) × (a : Act (Option (Behind T))) × Valid s.homes me.1 a × Holds terms_of stands legal awaited_of limit value (stepped s 1 x id me.1 w a)
      × looks terms_of stands legal awaited_of limit (step slots 1 0 0 home.none) me x (w, carried_after me.1 a) in
      let hits : v.ticket ≡ Some x → Goal = λ hit.
      let has : v.ticket ≡ Some k.over = hit ∙ ap Some is_over in
      let f = finds terms k.base k.history k.moments k.awaited k.over k.next s.homes s.views id v h at has off in
      let w : View G M = turned_to v k.history k.moments k.awaited in (
        w,
        takes 0 (Some f.0),
        ap (λ (hs : List (home.Option (Option (Behind T)))). get_elem? hs 0) f.1,
        inr record {
          base = k.base;
          history = k.history;
          moments = k.moments;
          awaited = k.awaited;
          over = k.over;
          next = k.next;
          rest = k.rest;
          words = words_stay;
          rule = came terms k.base k.history k.moments k.awaited k.over k.next s.homes s.views id v f.0 h at has f.1;
          tally = tally_set s.views id v w at (length k.history) (length k.history) refl refl refl k.tally;
        },
        ((λ _. turn_came value s k id me f.0 at empty named f.2), (λ miss. absurd (miss hit))),
      ) in
      let misses : v.ticket ≢ Some x → Goal = λ miss. (
        v,
        keeps,
        tt,
        inr (subst (λ (vs : List (View G M)). K record { words = set s.words 1 x; homes = s.homes; views = vs }) (sym (set_again s.views id v at))
            record { base = k.base; history = k.history; moments = k.moments; awaited = k.awaited; over = k.over; next = k.next; rest = k.rest; words = words_stay; rule = h; tally = k.tally }),
        ((λ hit. absurd (miss hit)), (λ _. refl)),
      ) in
      elim (v.ticket) as (λ o. v.ticket ≡ o → Goal) [
        | None ↦ λ none. misses (λ e. no_ticket x (sym none ∙ e))
        | Some t ↦ λ has. dite (ℕ_discrete t x) (λ e. hits (has ∙ ap Some e)) (λ ne. misses (λ e. ne (same_some t x (sym has ∙ e))))
      ] refl

  -- the same for a limit that is given by another name
  pub looks_keep : (value : T) (slots id : ℕ) (me : Me (Option (Behind T)) (View G M)) (shown : ℕ) → limit ≡ shown → me.0.turn ≡ false → me.0.stage ≡ Named → me.1 ≡ []
      → Allows (Holds terms_of stands legal awaited_of limit value) slots id me 1 (λ x. x) (looks terms_of stands legal awaited_of shown (step slots 1 0 0 home.none) me)
  looks_keep value slots id me shown same off named empty =
      subst (λ (n : ℕ). Allows (Holds terms_of stands legal awaited_of limit value) slots id me 1 (λ x. x) (looks terms_of stands legal awaited_of n (step slots 1 0 0 home.none) me)) same (looks_at value slots id me off named empty)
