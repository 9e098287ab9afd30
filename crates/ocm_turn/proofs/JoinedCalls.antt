-- What is known of joined calls is known of both lists of them.
use Rattle.std.proofs.Common.{◌≡◌, ◌≢◌, ◌<◌, List, [], ◌∷◌, true, false, cond, Some, sym, arith}
use Rattle.std.specs.Prelude.{nat_lt}
use Rattle.ocm_turn.specs.declared.view.Call.{Call}
use Rattle.ocm_turn.specs.Calls.{entry_at, Each, placed, merged}
use Rattle.ocm_turn.specs.Laws.{EachAlone, OrderedAreAlone, JoinedStand, JoinedAreAlone, JoinedAreCounted}
use Rattle.ocm_turn.proofs.CallLemmas.{each_map, length_merged}

module _ (P : Call → Type 0) where
  placed_each : (c : Call) (ds : List Call) → Each P (placed c ds) → P c × Each P ds
  placed_each c [] h = (h.0, tt)
  placed_each c (d ∷ ds) h = elim (nat_lt d.place c.place) as (λ b. Each P (cond b (c ∷ d ∷ ds) (d ∷ placed c ds)) → P c × Each P (d ∷ ds)) [
    | true ↦ λ k. (k.0, k.1)
    | false ↦ λ k. let m = placed_each c ds k.1 in (m.0, (k.0, m.1))
  ] h

  pub merged_each : (xs ys : List Call) → Each P (merged xs ys) → Each P xs × Each P ys
  merged_each [] ys h = (tt, h)
  merged_each (x ∷ xs) ys h = let k = placed_each x (merged xs ys) h in let m = merged_each xs ys k.1 in ((k.0, m.0), m.1)

alone_placed : (c : Call) (ds : List Call) → EachAlone (placed c ds) → Each (λ d. c.place ≢ d.place) ds × EachAlone ds
alone_placed c [] h = (tt, tt)
alone_placed c (d ∷ ds) h = elim (nat_lt d.place c.place) as (λ b. EachAlone (cond b (c ∷ d ∷ ds) (d ∷ placed c ds)) → Each (λ x. c.place ≢ x.place) (d ∷ ds) × EachAlone (d ∷ ds)) [
  | true ↦ λ k. (k.0, k.1)
  | false ↦ λ k.
      let m = alone_placed c ds k.1 in
      let other = placed_each (λ x. d.place ≢ x.place) c ds k.0 in
      (((λ e. other.0 (sym e)), m.0), (other.1, m.1))
] h

pub ordered_are_alone : OrderedAreAlone
ordered_are_alone [] h = tt
ordered_are_alone (c ∷ before) h = (each_map (λ b. b.place < c.place) (λ b. c.place ≢ b.place) before (λ b g e. omega (arith, g, e)) h.0, ordered_are_alone before h.1)

pub joined_stand : JoinedStand
joined_stand history calls others h = merged_each (λ c. entry_at history c.place ≡ Some c.entry) calls others h

pub joined_are_alone : JoinedAreAlone
joined_are_alone [] ys h = (tt, h, tt)
joined_are_alone (x ∷ xs) ys h =
    let k = alone_placed x (merged xs ys) h in
    let all = joined_are_alone xs ys k.1 in
    let other = merged_each (λ d. x.place ≢ d.place) xs ys k.0 in
    ((other.0, all.0), all.1, (other.1, all.2))

pub joined_are_counted : JoinedAreCounted
joined_are_counted calls others = length_merged calls others
