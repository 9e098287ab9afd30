use Rattle.std.proofs.Common.{◌≡◌, ◌≤◌, ◌-◌, ◌++◌, length, map, take, drop, false, vec_len, vec_capacity}
use Rattle.std.specs.HashMap.{spare}
use Rattle.ocm_entry.specs.declared.rows.Standing.TheVariants.{Collection}
use Rattle.ocm_tree.specs.Tables.{cleared, IsTable}
use Rattle.ocm_tree.proofs.indexes.remove_below.Given as goal

abbrev pub invariant-loop-index : goal.invariant-loop-index
invariant-loop-index l =
    (l.slots.items ≡ map (cleared l.there) (take l.index l.initial.slots.items) ++ drop l.index l.initial.slots.items)
    × (length l.slots.items ≡ length l.initial.slots.items)
    × (vec_capacity l.initial.slots - vec_len l.initial.slots ≤ vec_capacity l.slots - vec_len l.slots)
    × (spare l.initial.places ≤ spare l.places)
    × (spare l.initial.children ≤ spare l.children)
    × IsTable Collection l.slots.items l.places l.children l.count l.total false
