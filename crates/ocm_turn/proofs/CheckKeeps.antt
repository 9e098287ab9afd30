-- A look at what the rule says of a view keeps it.
use Rattle.std.proofs.Common.{◌≡◌, ℕ, inr, List, ◌∷◌, get_or, set, refl, sym, ap, ◌∙◌, subst, arith, Option}
use mathlib.Core.Option as home
use Rattle.atomic_table.specs.Table.{State, Me, step, keeps, Allows}
use Rattle.atomic_table.proofs.Lists.{set_again}
use Rattle.ocm_entry.specs.declared.entries.Entry.{Entry}
use Rattle.ocm_turn.specs.declared.behind.Behind.{Behind}
use Rattle.ocm_turn.specs.declared.view.View.{View}
use Rattle.ocm_turn.specs.declared.view.Stage.TheVariants.{Named}
use Rattle.ocm_turn.specs.Rule.{Kept, Holds}
use Rattle.ocm_turn.specs.Steps.{checks}
use Rattle.ocm_turn.proofs.RuleLemmas.{kept_at, sound_of, few}

module _ {T G M : Type 0} (terms_of : T → G) (stands : T → List Entry → List Entry → List ℕ → Type 0) (legal : G → List Entry → List Entry → Type 0) (awaited_of : T → Option M) (limit : ℕ) where
  pub checks_keep : (value : T) (slots id : ℕ) (me : Me (Option (Behind T)) (View G M)) → me.0.stage ≡ Named
      → Allows (Holds terms_of stands legal awaited_of limit value) slots id me 1 (λ x. x) (checks (step slots 1 0 0 home.none) me)
  checks_keep value slots id me named s given _ at _ =
      let terms : G = terms_of value in
      let K : State (Option (Behind T)) (View G M) → Type 0 = Kept terms_of stands legal awaited_of limit terms in
      let k = kept_at terms_of stands legal awaited_of limit value s given id me.0 at named in
      let x : ℕ = get_or s.words 1 0 in
      let is_over : x ≡ k.over = ap (λ (ws : List ℕ). get_or ws 1 0) k.words in
      let words_stay : set s.words 1 x ≡ k.next ∷ k.over ∷ k.rest = ap (set s.words 1) is_over ∙ ap (λ (ws : List ℕ). set ws 1 k.over) k.words in
      let v : View G M = me.0 in
      let h = k.rule in
      let old = h.each id v at in
      let calls = few limit terms k.base k.history k.moments k.awaited k.over k.next v old in
      let bounded = h.bounded in
      let same = old.limit_is named in (
        v,
        keeps,
        tt,
        inr (subst (λ (vs : List (View G M)). K record { words = set s.words 1 x; homes = s.homes; views = vs }) (sym (set_again s.views id v at))
            record { base = k.base; history = k.history; moments = k.moments; awaited = k.awaited; over = k.over; next = k.next; rest = k.rest; words = words_stay; rule = h; tally = k.tally }),
        (refl, sound_of limit terms k.base k.history k.moments k.awaited k.over k.next v old, omega (arith, calls, bounded, same)),
      )
