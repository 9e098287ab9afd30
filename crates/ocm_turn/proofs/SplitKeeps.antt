-- A split of a seat keeps the rule.
use Rattle.std.proofs.Common.{◌≡◌, ℕ, inl, inr, ⊎_elim, List, [], ◌∷◌, ◌++◌, length, set, refl, true, false, Option, Some, None}
use mathlib.Core.Option as home
use Rattle.atomic_table.specs.Table.{Splits}
use Rattle.ocm_entry.specs.declared.entries.Entry.{Entry}
use Rattle.ocm_turn.specs.declared.behind.Behind.{Behind}
use Rattle.ocm_turn.specs.declared.view.View.{View}
use Rattle.ocm_turn.specs.declared.view.Stage.TheVariants.{Named}
use Rattle.ocm_turn.specs.Rule.{Fits, EachView, SomeView, StandsBehind, Rule, Holds}
use Rattle.ocm_turn.specs.Steps.{parted, beside}
use Rattle.ocm_turn.proofs.ViewLemmas.{no_ticket, not_both, some_added, each_added, one_hand_added, apart_added}
use Rattle.ocm_turn.proofs.HeldLemmas.{held_added}
use Rattle.ocm_turn.proofs.RuleLemmas.{kept_at, replaced}
use Rattle.ocm_turn.proofs.TallyLemmas.{tally_split}

module _ {T G M : Type 0} (terms_of : T → G) (stands : T → List Entry → List Entry → List ℕ → Type 0) (legal : G → List Entry → List Entry → Type 0) (awaited_of : T → Option M) (limit : ℕ) where
  -- one view more, without ticket and calls
  added : (terms : G) (base history : List Entry) (moments : List ℕ) (awaited : Option M) (over next : ℕ) (homes : List (home.Option (Option (Behind T)))) (views : List (View G M)) (w : View G M)
      → Rule terms_of stands legal awaited_of limit terms base history moments awaited over next homes views → w.ticket ≡ None → w.turn ≡ false → w.held ≡ None → w.mine ≡ [] → Fits limit terms base history moments awaited over next w
      → Rule terms_of stands legal awaited_of limit terms base history moments awaited over next homes (views ++ w ∷ [])
  added terms base history moments awaited over next homes views w h none off free no_calls fits = record {
    order = h.order;
    tickets = h.tickets;
    paired = h.paired;
    bounded = h.bounded;
    room = h.room;
    lawful = h.lawful;
    each = each_added views w (Fits limit terms base history moments awaited over next) fits h.each;
    waiting = λ t low high. some_added views w (λ u. u.ticket ≡ Some t) (h.waiting t low high);
    one_hand = one_hand_added views w h.one_hand none;
    apart = apart_added views w h.apart no_calls;
    told = some_added views w (λ u. (u.stage ≡ Named) × (u.seen ≡ history)) h.told;
    held = held_added views w awaited free h.held;
    at_home = ⊎_elim
        (λ (m : (behind : Behind T) × (homes ≡ home.some (Some behind) ∷ []) × StandsBehind terms_of stands awaited_of terms base history moments awaited behind × EachView views (λ u. u.turn ≡ false)).
        inl (m.0, m.1, m.2, each_added views w (λ u. u.turn ≡ false) off m.3))
        (λ (m : (homes ≡ home.none ∷ []) × SomeView views (λ u. u.turn ≡ true)). inr (m.0, some_added views w (λ u. u.turn ≡ true) m.1)) h.at_home;
  }

  pub splits_keep : (value : T) (id : ℕ) (v : View G M) → v.stage ≡ Named → Splits (Holds terms_of stands legal awaited_of limit value) id v (parted v) (beside v)
  splits_keep value id v named s given at =
      let terms : G = terms_of value in
      let k = kept_at terms_of stands legal awaited_of limit value s given id v at named in
      let old = k.rule.each id v at in
      inr record {
        base = k.base;
        history = k.history;
        moments = k.moments;
        awaited = k.awaited;
        over = k.over;
        next = k.next;
        rest = k.rest;
        words = k.words;
        rule = added terms k.base k.history k.moments k.awaited k.over k.next s.homes (set s.views id (parted v)) (beside v)
            (replaced terms_of stands legal awaited_of limit terms k.base k.history k.moments k.awaited k.over k.next s.homes s.views id v (parted v) k.rule at refl refl refl refl refl refl record {
              stage = old.stage;
              limit_is = old.limit_is;
              base_is = old.base_is;
              terms_are = old.terms_are;
              met = old.met;
              seen = old.seen;
              noted = old.noted;
              paired = old.paired;
              heard = old.heard;
              heard_noted = old.heard_noted;
              mine = old.mine;
              order = old.order;
              drawn = old.drawn;
              ticket = old.ticket;
              turn = old.turn;
              spent = old.spent;
            })
            refl refl refl refl record {
              stage = old.stage;
              limit_is = old.limit_is;
              base_is = old.base_is;
              terms_are = old.terms_are;
              met = old.met;
              seen = old.seen;
              noted = old.noted;
              paired = old.paired;
              heard = old.heard;
              heard_noted = old.heard_noted;
              mine = tt;
              order = tt;
              drawn = old.drawn;
              ticket = λ t e. absurd (no_ticket t e);
              turn = λ e. absurd (not_both e);
              spent = λ _. refl;
            };
        tally = tally_split s.views id v at named (length k.history) k.tally;
      }
