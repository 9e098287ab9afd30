use Rattle.std.proofs.Common.{◌≡◌, ◌++◌, ◌≤◌, length, map, Some}
use Rattle.std.specs.Vec.Iter.{into_iter_items, into_iter_len}
use Rattle.ocm_entry.specs.declared.rows.Node.{Node}
use Rattle.ocm_tree.proofs.nodes.NodeTable.add_all.Given as goal

abbrev pub invariant-loop-planned : goal.invariant-loop-planned
invariant-loop-planned l =
    (l.yielded ++ into_iter_items l.planned-iterator ≡ into_iter_items l.initial.planned-iterator)
    × (into_iter_len l.planned-iterator ≡ length (into_iter_items l.planned-iterator))
    × (l.self.slots ≡ l.initial.self.slots ++ map (λ (n : Node). Some n) l.yielded)
    × (length (into_iter_items l.planned-iterator) ≤ l.self.room)
