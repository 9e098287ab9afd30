use Rattle.std.proofs.Common.{◌≡◌, ℕ, zero, suc, ◌<◌, [], ◌∷◌, length, get_or, refl, arith}
use Rattle.std.specs.Prelude.{Option, None}
use Rattle.std.proofs.lemmas.List.{length-set}
use Rattle.std.proofs.lemmas.List.Edits.{map_over_more}
use Rattle.ocm_entry.specs.declared.rows.Node.{Node}
use Rattle.ocm_tree.specs.Tables.{Slots, cleared}
use Rattle.ocm_tree.proofs.indexes.remove_below.Goals as goal

same-at : (slots : Slots) (i : ℕ) (d e : Option Node) → i < length slots → get_or slots i d ≡ get_or slots i e
same-at [] i d e l = absurd (omega arith)
same-at (s ∷ slots) zero d e l = refl
same-at (s ∷ slots) (suc i) d e l = same-at slots i d e (omega arith)

pub loop-index-preserved : goal.loop-index-preserved
loop-index-preserved c =
    let at = c.loop-index in
    let slots = at.slots.items in
    let long = at.invariant.1 in
    let below : at.index < length c.args.slots.now.items = omega arith in
    let here : at.index < length slots = omega (arith, long, below) in
    let x = get_or slots at.index None in
    let set = length-set slots at.index (cleared c.args.there.now x) in (
      rw c.remove_where_below.ensures.slots (map_over_more (cleared c.args.there.now) c.args.slots.now.items slots at.index x below at.invariant.0 (same-at slots at.index None x here)),
      rw c.remove_where_below.ensures.slots (omega (arith, set, long)),
      omega arith,
      omega arith,
      omega arith,
      c.remove_where_below.ensures.table,
    )
