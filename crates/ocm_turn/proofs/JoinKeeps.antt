-- A join of two seats keeps the rule.
use Rattle.std.proofs.Common.{◌≡◌, ℕ, ◌≢◌, ◌<◌, inl, inr, ⊎_elim, List, [], ◌∷◌, length, set, refl, sym, ap, ◌∙◌, subst, arith, true, false, cond, Option, Some, append-nil}
use Rattle.std.specs.Prelude.{nat_lt}
use mathlib.Core.Logic.{dite}
use mathlib.Core.Option as home
use mathlib.Core.Option.{some-injective}
use native.Mathlib.Decide.{ℕ_discrete}
use lib.ListN.{get_elem?}
use Rattle.atomic_table.specs.Table.{Joins}
use Rattle.atomic_table.proofs.Lists.{at_set, set_else}
use Rattle.ocm_entry.specs.declared.entries.Entry.{Entry}
use Rattle.ocm_turn.specs.declared.view.Call.{Call}
use Rattle.ocm_turn.specs.declared.behind.Behind.{Behind}
use Rattle.ocm_turn.specs.declared.view.View.{View}
use Rattle.ocm_turn.specs.declared.view.Stage.TheVariants.{Named}
use Rattle.ocm_turn.specs.Calls.{IsOlderPart, Each, Disjoint, entry_at}
use Rattle.ocm_turn.specs.Rule.{spent_view, IsIdle, Fits, Sees, EachView, SomeView, total, calls_of, parts_of, HasPart, Tally, StandsBehind, Rule, Holds}
use Rattle.ocm_turn.specs.Steps.{joined}
use Rattle.ocm_turn.proofs.CallLemmas.{older_self, stand_older, shorter_longer, shorter_longer_moments, left_older, right_older, longer_either, longer_left, longer_right, each_merged, in_order_merged, disjoint_none, length_merged}
use Rattle.ocm_turn.proofs.ViewLemmas.{set_swap, here_again, spent_new, spent_named, no_ticket, not_both, some_set, each_set, one_hand_set, apart_set}
use Rattle.ocm_turn.proofs.HeldLemmas.{held_set}
use Rattle.ocm_turn.proofs.RuleLemmas.{kept_at}
use Rattle.ocm_turn.proofs.TallyLemmas.{total_set}

module _ {T G M : Type 0} (terms_of : T → G) (stands : T → List Entry → List Entry → List ℕ → Type 0) (legal : G → List Entry → List Entry → Type 0) (awaited_of : T → Option M) (limit : ℕ) where
  module _ (terms : G) (base history : List Entry) (moments : List ℕ) (awaited : Option M) (over next : ℕ) (homes : List (home.Option (Option (Behind T)))) (views : List (View G M)) (id other : ℕ) (v w : View G M)
      (h : Rule terms_of stands legal awaited_of limit terms base history moments awaited over next homes views) (at : Sees views id v) (at2 : Sees views other w) (differ : other ≢ id) (quiet : IsIdle v) (idle : IsIdle w) where
    abbrev both : View G M
    both = joined v w

    abbrev F : View G M → Type 0
    F = Fits limit terms base history moments awaited over next

    fits_spent : F spent_view
    fits_spent = record {
      stage = spent_new;
      limit_is = λ e. absurd (spent_named e);
      base_is = λ e. absurd (spent_named e);
      terms_are = λ e. absurd (spent_named e);
      met = (refl, refl);
      seen = (history, sym (append-nil history));
      noted = (moments, sym (append-nil moments));
      paired = refl;
      heard = older_self [];
      heard_noted = older_self [];
      mine = tt;
      order = tt;
      drawn = omega arith;
      ticket = λ t e. absurd (no_ticket t e);
      turn = λ e. absurd (not_both e);
      spent = λ _. refl;
    }

    fits_both : F both
    fits_both =
        let a = h.each id v at in
        let b = h.each other w at2 in
        let c = a.drawn in
        let d = b.drawn in
        record {
          stage = a.stage;
          limit_is = a.limit_is;
          base_is = a.base_is;
          terms_are = a.terms_are;
          met = (b.base_is idle.2 ∙ sym (a.base_is quiet.2), b.terms_are idle.2 ∙ sym (a.terms_are quiet.2));
          seen = longer_either (λ l. IsOlderPart l history) v.seen w.seen a.seen b.seen;
          noted = elim (nat_lt (length v.seen) (length w.seen)) as (λ b. IsOlderPart (cond b w.moments v.moments) moments) [ true ↦ b.noted | false ↦ a.noted ];
          paired = elim (nat_lt (length v.seen) (length w.seen)) as (λ b. length (cond b w.moments v.moments) ≡ length (cond b w.seen v.seen)) [ true ↦ b.paired | false ↦ a.paired ];
          heard = shorter_longer v.seen w.seen history a.seen b.seen;
          heard_noted = shorter_longer_moments v.seen w.seen v.moments w.moments moments a.paired b.paired a.noted b.noted;
          mine = each_merged (λ x. entry_at both.seen x.place ≡ Some x.entry) v.mine w.mine
              (stand_older v.seen both.seen v.mine (left_older v.seen w.seen history a.seen b.seen) a.mine)
              (stand_older w.seen both.seen w.mine (right_older v.seen w.seen history a.seen b.seen) b.mine);
          order = in_order_merged v.mine w.mine a.order b.order (h.apart id other v w (λ e. differ (sym e)) at at2);
          drawn = omega (arith, c, d);
          ticket = a.ticket;
          turn = λ on. absurd (not_both (sym quiet.1 ∙ on));
          spent = λ other. absurd (other quiet.2);
        }

    abbrev views1 : List (View G M)
    views1 = set views other spent_view

    at1 : Sees views1 id v
    at1 = set_else views other id spent_view (λ e. differ (sym e)) ∙ at

    told_both : SomeView views (λ u. (u.stage ≡ Named) × (u.seen ≡ history)) → SomeView (set views1 id both) (λ u. (u.stage ≡ Named) × (u.seen ≡ history))
    told_both s =
        let a = h.each id v at in
        let b = h.each other w at2 in
        let here : Sees (set views1 id both) id both = here_again views1 id v both at1 in
        dite (ℕ_discrete s.0 id)
        (λ same. let one : s.1 ≡ v = some-injective s.1 v (sym s.2 ∙ (ap (get_elem? views) same ∙ at)) in
        (id, both, here, (quiet.2, longer_left v.seen w.seen history b.seen (sym (ap (λ (y : View G M). y.seen) one) ∙ s.3.1))))
        (λ not_id. dite (ℕ_discrete s.0 other)
        (λ same. let one : s.1 ≡ w = some-injective s.1 w (sym s.2 ∙ (ap (get_elem? views) same ∙ at2)) in
        (id, both, here, (quiet.2, longer_right v.seen w.seen history a.seen (sym (ap (λ (y : View G M). y.seen) one) ∙ s.3.1))))
        (λ not_other. (s.0, s.1, set_else views1 id s.0 both not_id ∙ (set_else views other s.0 spent_view not_other ∙ s.2), s.3)))

    into_one : Rule terms_of stands legal awaited_of limit terms base history moments awaited over next homes (set views1 id both)
    into_one = record {
      order = h.order;
      tickets = h.tickets;
      paired = h.paired;
      bounded = h.bounded;
      room = h.room;
      lawful = h.lawful;
      each = each_set views1 id v both at1 F F (λ j u _ _ f. f) fits_both (each_set views other w spent_view at2 F F (λ j u _ _ f. f) fits_spent h.each);
      waiting = λ t low high. some_set views1 id v both at1 (λ u. u.ticket ≡ Some t) (λ e. e)
          (some_set views other w spent_view at2 (λ u. u.ticket ≡ Some t) (λ e. absurd (no_ticket t (sym idle.0 ∙ e))) (h.waiting t low high));
      one_hand = one_hand_set views1 id v both at1 (one_hand_set views other w spent_view at2 h.one_hand (λ t j u has _ _ _. absurd (no_ticket t has)))
          (λ t j u has _ _ _. no_ticket t (sym quiet.0 ∙ has));
      apart = apart_set views1 id v both at1 (apart_set views other w spent_view at2 h.apart (λ j u _ _. tt))
          (λ j u not_id at'. ⊎_elim
          (λ (m : (j ≡ other) × (spent_view ≡ u)). subst (λ (y : View G M). Disjoint both.mine y.mine) m.1 (disjoint_none both.mine))
          (λ (m : (j ≢ other) × Sees views j u). each_merged (λ (c : Call). Each (λ (d : Call). c.place ≢ d.place) u.mine) v.mine w.mine
          (h.apart id j v u (λ e. not_id (sym e)) at m.1) (h.apart other j w u (λ e. m.0 (sym e)) at2 m.1)) (at_set views other j spent_view u at'));
      told = told_both h.told;
      held = held_set views1 id v both at1 awaited refl (held_set views other w spent_view at2 awaited (sym idle.3) h.held);
      at_home = ⊎_elim
          (λ (m : (behind : Behind T) × (homes ≡ home.some (Some behind) ∷ []) × StandsBehind terms_of stands awaited_of terms base history moments awaited behind × EachView views (λ u. u.turn ≡ false)).
          inl (
            m.0,
            m.1,
            m.2,
            each_set views1 id v both at1 (λ u. u.turn ≡ false) (λ u. u.turn ≡ false) (λ j u _ _ f. f) quiet.1
                (each_set views other w spent_view at2 (λ u. u.turn ≡ false) (λ u. u.turn ≡ false) (λ j u _ _ f. f) refl m.3),
          ))
          (λ (m : (homes ≡ home.none ∷ []) × SomeView views (λ u. u.turn ≡ true)).
          inr (m.0, some_set views1 id v both at1 (λ u. u.turn ≡ true) (λ e. e) (some_set views other w spent_view at2 (λ u. u.turn ≡ true) (λ e. absurd (not_both (sym idle.1 ∙ e))) m.1))) h.at_home;
    }

    tally_both : (n : ℕ) → Tally n views → Tally n (set views1 id both)
    tally_both n t =
        let a = total_set calls_of views other w spent_view at2 in
        let b = total_set calls_of views1 id v both at1 in
        let c = length_merged v.mine w.mine in
        let p = total_set parts_of views other w spent_view at2 in
        let q = total_set parts_of views1 id v both at1 in
        let counted = t.counted in
        let most = t.most in
        let same : total parts_of (set views1 id both) ≡ total parts_of views = omega (arith, p, q) in
        record {
          counted = omega (arith, a, b, c, counted);
          most = omega (arith, same, most);
          held = λ e.
              let old = t.held (sym same ∙ e) in
              each_set views1 id v both at1 HasPart HasPart (λ j u _ _ f. f) (λ _. let f : 0 < v.parts = old id v at quiet.2 in omega (arith, f))
              (each_set views other w spent_view at2 HasPart HasPart (λ j u _ _ f. f) (λ e. absurd (spent_named e)) old);
        }

  pub joins_keep : (value : T) (id other : ℕ) (v w : View G M) → IsIdle v → IsIdle w → Joins (Holds terms_of stands legal awaited_of limit value) id v other w (joined v w) spent_view
  joins_keep value id other v w quiet idle s given at apart at' =
      let terms : G = terms_of value in
      let k = kept_at terms_of stands legal awaited_of limit value s given id v at quiet.2 in
      let at2 : Sees s.views other w = sym (set_else s.views id other (joined v w) apart) ∙ at' in
      inr record {
        base = k.base;
        history = k.history;
        moments = k.moments;
        awaited = k.awaited;
        over = k.over;
        next = k.next;
        rest = k.rest;
        words = k.words;
        rule = subst (Rule terms_of stands legal awaited_of limit terms k.base k.history k.moments k.awaited k.over k.next s.homes) (set_swap s.views other id spent_view (joined v w) apart)
            (into_one terms k.base k.history k.moments k.awaited k.over k.next s.homes s.views id other v w k.rule at at2 apart quiet idle);
        tally = subst (Tally (length k.history)) (set_swap s.views other id spent_view (joined v w) apart)
            (tally_both terms k.base k.history k.moments k.awaited k.over k.next s.homes s.views id other v w k.rule at at2 apart quiet idle (length k.history) k.tally);
      }
