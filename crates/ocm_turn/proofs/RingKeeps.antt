-- Whatever is written to a bell, or to a word of the queue, keeps the rule.
use Rattle.std.proofs.Common.{◌≡◌, ℕ, zero, suc, ◌≤◌, inr, List, ◌∷◌, get_or, set, refl, sym, ap, ◌∙◌, subst, arith, Option}
use mathlib.Core.Option as home
use Rattle.atomic_table.specs.Table.{State, Me, step, keeps, Allows}
use Rattle.atomic_table.proofs.Lists.{set_again}
use Rattle.ocm_entry.specs.declared.entries.Entry.{Entry}
use Rattle.ocm_turn.specs.declared.behind.Behind.{Behind}
use Rattle.ocm_turn.specs.declared.view.View.{View}
use Rattle.ocm_turn.specs.declared.view.Stage.TheVariants.{Named}
use Rattle.ocm_turn.specs.Rule.{Kept, Holds}
use Rattle.ocm_turn.specs.Steps.{rings}
use Rattle.ocm_turn.proofs.RuleLemmas.{kept_at}

-- a new word after the first two leaves these
beyond : (a b : ℕ) (more : List ℕ) (i n : ℕ) → 2 ≤ i → (after : List ℕ) × (set (a ∷ b ∷ more) i n ≡ a ∷ b ∷ after)
beyond a b more zero n high = absurd (omega (arith, high))
beyond a b more (suc zero) n high = absurd (omega (arith, high))
beyond a b more (suc (suc i)) n high = (set more i n, refl)

module _ {T G M : Type 0} (terms_of : T → G) (stands : T → List Entry → List Entry → List ℕ → Type 0) (legal : G → List Entry → List Entry → Type 0) (awaited_of : T → Option M) (limit : ℕ) where
  pub rings_keep : (change : ℕ → ℕ) (value : T) (slots id i : ℕ) (me : Me (Option (Behind T)) (View G M)) → 2 ≤ i → me.0.stage ≡ Named
      → Allows (Holds terms_of stands legal awaited_of limit value) slots id me i change (rings (step slots i 1 0 home.none) me)
  rings_keep change value slots id i me high named s given _ at _ =
      let K : State (Option (Behind T)) (View G M) → Type 0 = Kept terms_of stands legal awaited_of limit (terms_of value) in
      let k = kept_at terms_of stands legal awaited_of limit value s given id me.0 at named in
      let n : ℕ = change (get_or s.words i 0) in
      let rung = beyond k.next k.over k.rest i n high in
      let words : set s.words i n ≡ k.next ∷ k.over ∷ rung.0 = ap (λ (ws : List ℕ). set ws i n) k.words ∙ rung.1 in (
        me.0,
        keeps,
        tt,
        inr (subst (λ (vs : List (View G M)). K record { words = set s.words i n; homes = s.homes; views = vs }) (sym (set_again s.views id me.0 at))
            record { base = k.base; history = k.history; moments = k.moments; awaited = k.awaited; over = k.over; next = k.next; rest = rung.0; words = words; rule = k.rule; tally = k.tally }),
        refl,
      )
