-- A finish keeps the rule.
use Rattle.std.proofs.Common.{◌≡◌, ℕ, suc, ◌+◌, ◌%◌, ◌^◌, ◌<◌, ◌≢◌, inr, List, [], ◌∷◌, length, get_or, set, refl, sym, ap, ◌∙◌, subst, arith, true, Option, Some, None}
use mathlib.Core.Option as home
use Rattle.atomic_table.specs.Table.{State, Me, step, gives, stepped, Allows}
use Rattle.ocm_entry.specs.declared.entries.Entry.{Entry}
use Rattle.ocm_turn.specs.declared.behind.Behind.{Behind}
use Rattle.ocm_turn.specs.declared.view.View.{View}
use Rattle.ocm_turn.specs.declared.view.Stage.TheVariants.{Named}
use Rattle.ocm_turn.specs.Calls.{IsOlderPart, StandIn, entry_at}
use Rattle.ocm_turn.specs.Rule.{Fits, Sees, AllApart, IsHeld, StandsBehind, Rule, Kept, Holds}
use Rattle.ocm_turn.specs.Steps.{finished, finishes, left_awaited, HasInHand}
use Rattle.ocm_turn.proofs.CallLemmas.{older_through, older_length, at_front, inside, stand_older, stand_below, length_in_order, each_map}
use Rattle.ocm_turn.proofs.ViewLemmas.{same_some, no_ticket, not_both, here_again, apart_set}
use Rattle.ocm_turn.proofs.HeldLemmas.{held_set, held_ended}
use Rattle.ocm_turn.proofs.RuleLemmas.{kept_at, sound_of}
use Rattle.ocm_turn.proofs.TallyLemmas.{tally_set}
use Rattle.ocm_turn.proofs.TurnEnds.{one_more, below, went}

longer_by : {A : Type 0} → (a b : List A) (e : A) → IsOlderPart a b → IsOlderPart a (e ∷ b)
longer_by {A} a b e p = (e ∷ p.0, ap (λ (l : List A). e ∷ l) p.1)

module _ {G M : Type 0} (limit : ℕ) (terms : G) (base history : List Entry) (moments : List ℕ) (awaited : Option M) (over next : ℕ) (v : View G M) (e : Entry) (stamp : ℕ)
    (old : Fits limit terms base history moments awaited over next v) (whole : v.found ≡ history) (noted : v.found_moments ≡ moments) (paired : length moments ≡ length history) (named : v.stage ≡ Named) where
  seen_found : IsOlderPart v.seen (e ∷ v.found)
  seen_found = longer_by v.seen v.found e (subst (IsOlderPart v.seen) (sym whole) old.seen)

  noted_found : IsOlderPart v.moments (stamp ∷ v.found_moments)
  noted_found = longer_by v.moments v.found_moments stamp (subst (IsOlderPart v.moments) (sym noted) old.noted)

  stand_found : StandIn v.found v.mine
  stand_found = stand_older v.seen v.found v.mine (subst (IsOlderPart v.seen) (sym whole) old.seen) old.mine

  fits_finished : (awaits : Option M) → Fits limit terms base (e ∷ history) (stamp ∷ moments) awaits (over + 1) next (finished v e stamp)
  fits_finished awaits = record {
    stage = old.stage;
    limit_is = old.limit_is;
    base_is = old.base_is;
    terms_are = old.terms_are;
    met = old.met;
    seen = ([], ap (λ (l : List Entry). e ∷ l) (sym whole));
    noted = ([], ap (λ (l : List ℕ). stamp ∷ l) (sym noted));
    paired = ap suc (ap length noted ∙ (paired ∙ sym (ap length whole)));
    heard = older_through v.heard v.seen (e ∷ v.found) old.heard seen_found;
    heard_noted = older_through v.heard_moments v.moments (stamp ∷ v.found_moments) old.heard_noted noted_found;
    mine = (at_front v.found e, stand_older v.found (e ∷ v.found) v.mine (e ∷ [], refl) stand_found);
    order = (stand_below v.found v.mine stand_found, old.order);
    drawn = let same : length v.found ≡ length history = ap length whole in omega (arith, same);
    ticket = λ t e. absurd (no_ticket t e);
    turn = λ off. absurd (not_both off);
    spent = λ other. absurd (other named);
  }

module _ {T G M : Type 0} (terms_of : T → G) (stands : T → List Entry → List Entry → List ℕ → Type 0) (legal : G → List Entry → List Entry → Type 0) (awaited_of : T → Option M) (limit : ℕ) where
  -- the new call stands where no other view has one
  parts_finished : (terms : G) (base history : List Entry) (moments : List ℕ) (awaited : Option M) (over next : ℕ) (homes : List (home.Option (Option (Behind T)))) (views : List (View G M)) (id : ℕ) (v : View G M) (e : Entry) (stamp : ℕ)
      → Rule terms_of stands legal awaited_of limit terms base history moments awaited over next homes views → Sees views id v → v.found ≡ history → AllApart (set views id (finished v e stamp))
  parts_finished terms base history moments awaited over next homes views id v e stamp h at whole = apart_set views id v (finished v e stamp) at h.apart (λ j u other at'. (
    each_map (λ d. entry_at u.seen d.place ≡ Some d.entry) (λ d. length v.found ≢ d.place) u.mine
        (λ d stands_there is. let a = inside u.seen d.place d.entry stands_there in let b = older_length u.seen history (h.each j u at').seen in let c : length v.found ≡ length history = ap length whole in omega (arith, a, b, c, is)) (h.each j u at').mine,
    h.apart id j v u (λ e. other (sym e)) at at',
  ))

  -- the mark that is awaited behind the end of the call
  held_finished : (views : List (View G M)) (id : ℕ) (v : View G M) (e : Entry) (stamp : ℕ) (awaited own : Option M) → v.held ≡ own → Sees views id v → IsHeld awaited views → IsHeld (left_awaited own awaited) (set views id (finished v e stamp))
  held_finished views id v e stamp awaited None has at h = held_set views id v (finished v e stamp) at awaited (sym has) h
  held_finished views id v e stamp awaited (Some mark) has at h = held_ended views id v (finished v e stamp) at awaited mark has refl h

  pub finishes_keep : (value : T) (slots id : ℕ) (me : Me (Option (Behind T)) (View G M)) (e : Entry) (stamp : ℕ) → me.0.turn ≡ true → me.0.stage ≡ Named
      → HasInHand terms_of stands legal awaited_of me (e ∷ me.0.found) (stamp ∷ me.0.found_moments) (left_awaited me.0.held me.0.lent) → length me.0.found < limit → (left_awaited me.0.held me.0.lent ≢ None → length me.0.found + 1 < limit)
      → Allows (Holds terms_of stands legal awaited_of limit value) slots id me 1 (λ n. (n + 1) % 2 ^ 64) (finishes e stamp (step slots 1 1 0 home.none) me)
  finishes_keep value slots id me e stamp on named hand low room s given _ at _ =
      let terms : G = terms_of value in
      let k = kept_at terms_of stands legal awaited_of limit value s given id me.0 at named in
      let K : State (Option (Behind T)) (View G M) → Type 0 = Kept terms_of stands legal awaited_of limit terms in
      let v : View G M = me.0 in
      let h = k.rule in
      let old = h.each id v at in
      let w : View G M = finished v e stamp in
      let behind : Behind T = hand.0 in
      let n : ℕ = get_or s.words 1 0 in
      let is_over : n ≡ k.over = ap (λ (ws : List ℕ). get_or ws 1 0) k.words in
      let whole : v.found ≡ k.history = (old.turn on).1 in
      let noted : v.found_moments ≡ k.moments = (old.turn on).2 in
      let lent : v.lent ≡ k.awaited = (old.turn on).3 in
      let based : v.base ≡ k.base = old.base_is named in
      let agreed : terms_of behind.value ≡ terms = same_some (terms_of behind.value) terms (sym hand.2 ∙ old.terms_are named) in
      let awaits : Option M = left_awaited v.held k.awaited in
      let st : StandsBehind terms_of stands awaited_of terms k.base (e ∷ k.history) (stamp ∷ k.moments) awaits behind =
      subst (λ (z : G × List Entry × List Entry × List ℕ × Option M). StandsBehind terms_of stands awaited_of z.0 z.1 (e ∷ z.2) (stamp ∷ z.3) (left_awaited v.held z.4) behind)
      (λ i. (agreed i, based i, whole i, noted i, lent i)) hand.3 in
      let ok : legal terms k.base (e ∷ k.history) = subst (λ (z : G × List Entry × List Entry). legal z.0 z.1 (e ∷ z.2)) (λ i. (agreed i, based i, whole i)) hand.4 in
      let as_long : length v.found ≡ length k.history = ap length whole in
      let roomy : awaits ≢ None → suc (length k.history) < limit = λ some. let r = room (λ none. some (ap (left_awaited v.held) (sym lent) ∙ none)) in omega (arith, r, as_long) in
      let lower : k.over < k.next = below terms_of stands legal awaited_of limit terms k.base k.history k.moments k.awaited k.over k.next s.homes s.views id v h at on in
      let up : (n + 1) % 2 ^ 64 ≡ k.over + 1 = one_more n k.over k.next is_over lower h.tickets in
      let words : set s.words 1 ((n + 1) % 2 ^ 64) ≡ k.next ∷ (k.over + 1) ∷ k.rest = ap (set s.words 1) up ∙ ap (λ (ws : List ℕ). set ws 1 (k.over + 1)) k.words in
      let fits : Fits limit terms k.base (e ∷ k.history) (stamp ∷ k.moments) awaits (k.over + 1) k.next w = fits_finished limit terms k.base k.history k.moments k.awaited k.over k.next v e stamp old whole noted h.paired named awaits in
      let rule = went terms_of stands legal awaited_of limit terms k.base k.history k.moments k.awaited k.over k.next s.homes s.views id v h at on (e ∷ k.history) (stamp ∷ k.moments) awaits w (e ∷ [], refl) (stamp ∷ [], refl)
      behind st ok (ap suc h.paired) (omega (arith, low, as_long)) roomy refl refl fits
      (parts_finished terms k.base k.history k.moments k.awaited k.over k.next s.homes s.views id v e stamp h at whole)
      (id, w, here_again s.views id v w at, (named, ap (λ (l : List Entry). e ∷ l) whole))
      (held_finished s.views id v e stamp k.awaited v.held refl at h.held) in (
        w,
        gives,
        tt,
        inr (subst (λ (c : List (ℕ × Option (Behind T))). K (stepped s 1 ((n + 1) % 2 ^ 64) id c w gives)) (sym hand.1)
            record {
              base = k.base;
              history = e ∷ k.history;
              moments = stamp ∷ k.moments;
              awaited = awaits;
              over = k.over + 1;
              next = k.next;
              rest = k.rest;
              words = words;
              rule = rule;
              tally = tally_set s.views id v w at (length k.history) (suc (length k.history)) (omega arith) refl refl k.tally;
            }),
        (refl, refl, sound_of limit terms k.base (e ∷ k.history) (stamp ∷ k.moments) awaits (k.over + 1) k.next w fits, length_in_order w.mine (length w.seen) fits.order (stand_below w.seen w.mine fits.mine)),
      )
