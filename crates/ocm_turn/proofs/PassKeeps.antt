-- The end of a turn that ends no call keeps the rule.
use Rattle.std.proofs.Common.{◌≡◌, ℕ, ◌+◌, ◌%◌, ◌^◌, ◌<◌, ◌≢◌, inr, List, [], ◌∷◌, length, get_or, set, refl, sym, ap, ◌∙◌, subst, arith, true, false, Option, Some, None}
use mathlib.Core.Option as home
use Rattle.atomic_table.specs.Table.{State, Me, step, gives, stepped, Allows}
use Rattle.ocm_entry.specs.declared.entries.Entry.{Entry}
use Rattle.ocm_turn.specs.declared.behind.Behind.{Behind}
use Rattle.ocm_turn.specs.declared.view.Call.{Call}
use Rattle.ocm_turn.specs.declared.view.View.{View}
use Rattle.ocm_turn.specs.declared.view.Stage.TheVariants.{Named}
use Rattle.ocm_turn.specs.Calls.{Disjoint}
use Rattle.ocm_turn.specs.Rule.{Fits, Sees, IsHeld, StandsBehind, Kept, Holds}
use Rattle.ocm_turn.specs.Steps.{passed, refused, HasInHand, passes, refuses, sets_apart}
use Rattle.ocm_turn.proofs.CallLemmas.{older_self}
use Rattle.ocm_turn.proofs.ViewLemmas.{same_some, no_ticket, not_both, some_set, apart_set}
use Rattle.ocm_turn.proofs.HeldLemmas.{held_set, held_begun}
use Rattle.ocm_turn.proofs.RuleLemmas.{kept_at, refit}
use Rattle.ocm_turn.proofs.TallyLemmas.{tally_set}
use Rattle.ocm_turn.proofs.TurnEnds.{one_more, below, went}

-- what a seat holds alone
one_held : {B : Type 0} (held : List (ℕ × Option B)) (a b : B) → held ≡ (0, Some a) ∷ [] → held ≡ (0, Some b) ∷ [] → a ≡ b
one_held {B} held a b p q = let e = sym p ∙ q in same_some a b (ap (λ (l : List (ℕ × Option B)). elim l as (λ _. Option B) [ [] ↦ None | x ∷ xs ↦ x.1 ]) e)

module _ {T G M : Type 0} (terms_of : T → G) (stands : T → List Entry → List Entry → List ℕ → Type 0) (legal : G → List Entry → List Entry → Type 0) (awaited_of : T → Option M) (limit : ℕ) where
  abbrev Hand : Me (Option (Behind T)) (View G M) → Option M → Type 0
  Hand me awaits = HasInHand terms_of stands legal awaited_of me me.0.found me.0.found_moments awaits

  -- the rule behind a turn at whose end no call has ended, with this view
  ended : (value : T) (s : State (Option (Behind T)) (View G M)) (k : Kept terms_of stands legal awaited_of limit (terms_of value) s) (id : ℕ) (me : Me (Option (Behind T)) (View G M)) (w : View G M) (awaits : Option M)
      → Sees s.views id me.0 → me.0.turn ≡ true → me.0.stage ≡ Named → Hand me awaits → w.ticket ≡ None → w.turn ≡ false → w.stage ≡ me.0.stage → w.seen ≡ me.0.seen → w.mine ≡ me.0.mine → w.parts ≡ me.0.parts
      → Fits limit (terms_of value) k.base k.history k.moments awaits (k.over + 1) k.next w → (awaits ≢ None → length k.history < limit) → IsHeld awaits (set s.views id w)
      → Kept terms_of stands legal awaited_of limit (terms_of value) (stepped s 1 ((get_or s.words 1 0 + 1) % 2 ^ 64) id me.1 w gives)
  ended value s k id me w awaits at on named hand none off stage seen mine parts fits room held =
      let terms : G = terms_of value in
      let K : State (Option (Behind T)) (View G M) → Type 0 = Kept terms_of stands legal awaited_of limit terms in
      let v : View G M = me.0 in
      let h = k.rule in
      let old = h.each id v at in
      let behind : Behind T = hand.0 in
      let n : ℕ = get_or s.words 1 0 in
      let is_over : n ≡ k.over = ap (λ (ws : List ℕ). get_or ws 1 0) k.words in
      let whole : v.found ≡ k.history = (old.turn on).1 in
      let noted : v.found_moments ≡ k.moments = (old.turn on).2 in
      let based : v.base ≡ k.base = old.base_is named in
      let agreed : terms_of behind.value ≡ terms = same_some (terms_of behind.value) terms (sym hand.2 ∙ old.terms_are named) in
      let st : StandsBehind terms_of stands awaited_of terms k.base k.history k.moments awaits behind = subst (λ (z : G × List Entry × List Entry × List ℕ). StandsBehind terms_of stands awaited_of z.0 z.1 z.2 z.3 awaits behind) (λ i. (agreed i, based i, whole i, noted i)) hand.3 in
      let lower : k.over < k.next = below terms_of stands legal awaited_of limit terms k.base k.history k.moments k.awaited k.over k.next s.homes s.views id v h at on in
      let up : (n + 1) % 2 ^ 64 ≡ k.over + 1 = one_more n k.over k.next is_over lower h.tickets in
      let words : set s.words 1 ((n + 1) % 2 ^ 64) ≡ k.next ∷ (k.over + 1) ∷ k.rest = ap (set s.words 1) up ∙ ap (λ (ws : List ℕ). set ws 1 (k.over + 1)) k.words in
      let rule = went terms_of stands legal awaited_of limit terms k.base k.history k.moments k.awaited k.over k.next s.homes s.views id v h at on k.history k.moments awaits w (older_self k.history) (older_self k.moments)
      behind st h.lawful h.paired h.bounded room none off fits
      (apart_set s.views id v w at h.apart (λ j u other at'. subst (λ (cs : List Call). Disjoint cs u.mine) (sym mine) (h.apart id j v u (λ e. other (sym e)) at at')))
      (some_set s.views id v w at (λ u. (u.stage ≡ Named) × (u.seen ≡ k.history)) (λ p. (stage ∙ p.0, seen ∙ p.1)) h.told) held in
      subst (λ (c : List (ℕ × Option (Behind T))). K (stepped s 1 ((n + 1) % 2 ^ 64) id c w gives)) (sym hand.1)
      record {
        base = k.base;
        history = k.history;
        moments = k.moments;
        awaited = awaits;
        over = k.over + 1;
        next = k.next;
        rest = k.rest;
        words = words;
        rule = rule;
        tally = tally_set s.views id v w at (length k.history) (length k.history) (ap (λ (cs : List Call). length cs + length k.history) mine) parts stage k.tally;
      }

  -- the view behind a turn that was passed on
  fits_passed : (terms : G) (base history : List Entry) (moments : List ℕ) (awaited awaits mark : Option M) (over next : ℕ) (v : View G M) → Fits limit terms base history moments awaited over next v
      → Fits limit terms base history moments awaits (over + 1) next (passed v mark)
  fits_passed terms base history moments awaited awaits mark over next v old = refit limit terms base history history moments moments awaited awaits over next (over + 1) next v (passed v mark) old
      (older_self history) (older_self moments) refl (λ t e. absurd (no_ticket t e)) (λ e. absurd (not_both e))

  pub passes_keep : (value : T) (slots id : ℕ) (me : Me (Option (Behind T)) (View G M)) → me.0.turn ≡ true → me.0.stage ≡ Named → me.0.held ≡ None → Hand me me.0.lent
      → Allows (Holds terms_of stands legal awaited_of limit value) slots id me 1 (λ n. (n + 1) % 2 ^ 64) (passes (step slots 1 1 0 home.none) me)
  passes_keep value slots id me on named free hand s given _ at _ =
      let k = kept_at terms_of stands legal awaited_of limit value s given id me.0 at named in
      let w : View G M = passed me.0 None in
      let old = k.rule.each id me.0 at in (
        w,
        gives,
        tt,
        inr (ended value s k id me w k.awaited at on named (subst (Hand me) (old.turn on).3 hand) refl refl refl refl refl refl
            (fits_passed (terms_of value) k.base k.history k.moments k.awaited k.awaited None k.over k.next me.0 old) k.rule.room (held_set s.views id me.0 w at k.awaited (sym free) k.rule.held)),
        (refl, refl),
      )

  pub sets_apart_keep : (value : T) (slots id : ℕ) (me : Me (Option (Behind T)) (View G M)) (mark : M) → me.0.turn ≡ true → me.0.stage ≡ Named → me.0.lent ≡ None → Hand me (Some mark) → length me.0.found < limit
      → Allows (Holds terms_of stands legal awaited_of limit value) slots id me 1 (λ n. (n + 1) % 2 ^ 64) (sets_apart awaited_of (step slots 1 1 0 home.none) me)
  sets_apart_keep value slots id me mark on named none hand room s given _ at _ =
      let k = kept_at terms_of stands legal awaited_of limit value s given id me.0 at named in
      let w : View G M = passed me.0 (Some mark) in
      let old = k.rule.each id me.0 at in
      let whole : me.0.found ≡ k.history = (old.turn on).1 in
      let free : k.awaited ≡ None = sym (old.turn on).3 ∙ none in (
        w,
        gives,
        tt,
        inr (ended value s k id me w (Some mark) at on named hand refl refl refl refl refl refl
            (fits_passed (terms_of value) k.base k.history k.moments k.awaited (Some mark) (Some mark) k.over k.next me.0 old) (λ _. subst (λ (l : List Entry). length l < limit) whole room)
            (held_begun s.views id me.0 w at mark refl (subst (λ (o : Option M). IsHeld o s.views) free k.rule.held))),
        (refl, λ behind is. ap (passed me.0) (sym hand.3.awaits ∙ ap (λ (b : Behind T). awaited_of b.value) (one_held me.1 hand.0 behind hand.1 is))),
      )

  -- the view behind a turn that found the limit reached
  fits_refused : (terms : G) (base history : List Entry) (moments : List ℕ) (awaited : Option M) (over next : ℕ) (v : View G M) → v.found ≡ history → Fits limit terms base history moments awaited over next v
      → Fits limit terms base history moments awaited (over + 1) next (refused v)
  fits_refused terms base history moments awaited over next v whole old =
      let marked : Fits limit terms base history moments awaited over next (record v { drawn = length v.found }) = record {
        stage = old.stage;
        limit_is = old.limit_is;
        base_is = old.base_is;
        terms_are = old.terms_are;
        met = old.met;
        seen = old.seen;
        noted = old.noted;
        paired = old.paired;
        heard = old.heard;
        heard_noted = old.heard_noted;
        mine = old.mine;
        order = old.order;
        drawn = let same : length v.found ≡ length history = ap length whole in omega (arith, same);
        ticket = old.ticket;
        turn = old.turn;
        spent = old.spent;
      } in
      refit limit terms base history history moments moments awaited awaited over next (over + 1) next (record v { drawn = length v.found }) (refused v) marked
      (older_self history) (older_self moments) refl (λ t e. absurd (no_ticket t e)) (λ e. absurd (not_both e))

  pub refuses_keep : (value : T) (slots id : ℕ) (me : Me (Option (Behind T)) (View G M)) → me.0.turn ≡ true → me.0.stage ≡ Named → me.0.held ≡ None → Hand me me.0.lent
      → Allows (Holds terms_of stands legal awaited_of limit value) slots id me 1 (λ n. (n + 1) % 2 ^ 64) (refuses (step slots 1 1 0 home.none) me)
  refuses_keep value slots id me on named free hand s given _ at _ =
      let k = kept_at terms_of stands legal awaited_of limit value s given id me.0 at named in
      let w : View G M = refused me.0 in
      let old = k.rule.each id me.0 at in (
        w,
        gives,
        tt,
        inr (ended value s k id me w k.awaited at on named (subst (Hand me) (old.turn on).3 hand) refl refl refl refl refl refl
            (fits_refused (terms_of value) k.base k.history k.moments k.awaited k.over k.next me.0 (old.turn on).1 old) k.rule.room (held_set s.views id me.0 w at k.awaited (sym free) k.rule.held)),
        (refl, refl),
      )
