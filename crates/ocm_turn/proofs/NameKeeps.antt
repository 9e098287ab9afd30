-- The naming of the base keeps the rule, and from then on the rule holds in full.
use Rattle.std.proofs.Common.{◌≡◌, ℕ, inl, inr, ⊎_elim, List, [], ◌∷◌, get_or, set, refl, sym, ap, ◌∙◌, subst, arith, Option, Some, None}
use mathlib.Core.Option as home
use lib.ListN.{get_elem?}
use Rattle.atomic_table.specs.Table.{Me, step, keeps, Allows}
use Rattle.ocm_entry.specs.declared.entries.Entry.{Entry}
use Rattle.ocm_turn.specs.declared.behind.Behind.{Behind}
use Rattle.ocm_turn.specs.declared.view.View.{View}
use Rattle.ocm_turn.specs.Calls.{Disjoint}
use Rattle.ocm_turn.specs.Rule.{newcomer, Fits, HasPart, Tally, Rule, Kept, Opened, Holds}
use Rattle.ocm_turn.specs.Steps.{named, names}
use Rattle.ocm_turn.proofs.CallLemmas.{older_self}
use Rattle.ocm_turn.proofs.ViewLemmas.{alone, no_ticket, not_both, new_named}

module _ {T G M : Type 0} (terms_of : T → G) (stands : T → List Entry → List Entry → List ℕ → Type 0) (legal : G → List Entry → List Entry → Type 0) (awaited_of : T → Option M) (limit : ℕ) where
  abbrev fresh_behind : T → Behind T
  fresh_behind value = record { value = value; calls = 0 }

  abbrev first : G → List Entry → View G M
  first terms base = named (newcomer limit terms) base

  fits_first : (terms : G) (base : List Entry) → Fits limit terms base [] [] None 0 0 (first terms base)
  fits_first terms base = record {
    stage = λ e. new_named (sym e);
    limit_is = λ _. refl;
    base_is = λ _. refl;
    terms_are = λ _. refl;
    met = (refl, refl);
    seen = older_self [];
    noted = older_self [];
    paired = refl;
    heard = older_self [];
    heard_noted = older_self [];
    mine = tt;
    order = tt;
    drawn = omega arith;
    ticket = λ t e. absurd (no_ticket t e);
    turn = λ e. absurd (not_both e);
    spent = λ _. refl;
  }

  tally_first : (terms : G) (base : List Entry) → Tally 0 (first terms base ∷ [])
  tally_first terms base = record {
    counted = refl;
    most = omega arith;
    held = λ _ j v e. subst HasPart (alone j (first terms base) v e).0 (λ _. omega arith);
  }

  opened : (value : T) (base : List Entry) (homes : List (home.Option (Option (Behind T)))) → homes ≡ home.some (Some (fresh_behind value)) ∷ [] → stands value base [] [] → awaited_of value ≡ None → legal (terms_of value) base []
      → Rule terms_of stands legal awaited_of limit (terms_of value) base [] [] None 0 0 homes (first (terms_of value) base ∷ [])
  opened value base homes here st home_is ok =
      let w : View G M = first (terms_of value) base in
      record {
        order = omega arith;
        tickets = omega arith;
        paired = refl;
        bounded = omega arith;
        room = λ some. absurd (some refl);
        lawful = ok;
        each = λ j v e. subst (Fits limit (terms_of value) base [] [] None 0 0) (alone j w v e).0 (fits_first (terms_of value) base);
        waiting = λ t low high. absurd (omega (arith, high));
        one_hand = λ i j v u t ei ej ti tj. absurd (no_ticket t (ap (λ (z : View G M). z.ticket) (alone i w v ei).0 ∙ ti));
        apart = λ i j v u ne ei ej. subst (λ (y : View G M). Disjoint y.mine u.mine) (alone i w v ei).0 tt;
        told = (0, w, refl, (refl, refl));
        held = λ j v e. ap (λ (z : View G M). z.held) (sym (alone j w v e).0);
        at_home = inl (fresh_behind value, here, record { terms_are = refl; stands_for = st; calls = refl; awaits = home_is }, λ j v e. ap (λ (z : View G M). z.turn) (sym (alone j w v e).0));
      }

  pub names_keep : (value : T) (base : List Entry) (known : List Entry → Type 0) (slots id : ℕ) (me : Me (Option (Behind T)) (View G M)) → me ≡ (newcomer limit (terms_of value), []) → stands value base [] [] → awaited_of value ≡ None → legal (terms_of value) base [] → known base
      → Allows (Holds terms_of stands legal awaited_of limit value) slots id me 0 (λ x. x) (names known (step slots 0 0 0 home.none) me)
  names_keep value base known slots id me new st home_is ok fact s given _ at _ =
      let terms : G = terms_of value in
      let w : View G M = first terms base in
      let fresh : get_elem? s.views id ≡ home.some (newcomer limit terms) = at ∙ ap (λ (m : Me (Option (Behind T)) (View G M)). home.some m.0) new in
      ⊎_elim (λ (o : Opened terms_of stands legal awaited_of limit terms value s).
      let is_first : id ≡ 0 = (alone id (newcomer limit terms) (newcomer limit terms) (ap (λ (vs : List (View G M)). get_elem? vs id) (sym o.views) ∙ fresh)).1 in
      let words : set s.words 0 (get_or s.words 0 0) ≡ 0 ∷ 0 ∷ o.rest = ap (λ (ws : List ℕ). set ws 0 (get_or ws 0 0)) o.words in
      let views : set s.views id w ≡ w ∷ [] = ap (λ (z : List (View G M) × ℕ). set z.0 z.1 w) (λ i. (o.views i, is_first i)) in (
        w,
        keeps,
        tt,
        inr record {
          base = base;
          history = [];
          moments = [];
          awaited = None;
          over = 0;
          next = 0;
          rest = o.rest;
          words = words;
          rule = subst (λ (vs : List (View G M)). Rule terms_of stands legal awaited_of limit terms base [] [] None 0 0 s.homes vs) (sym views) (opened value base s.homes o.homes st home_is ok);
          tally = subst (Tally 0) (sym views) (tally_first terms base);
        },
        (base, (λ i. (named (sym new i).0 base, me.1)), fact),
      ))
      (λ (r : Kept terms_of stands legal awaited_of limit terms s). absurd ((r.rule.each id (newcomer limit terms) fresh).stage refl)) given
