use Rattle.std.proofs.Common.{◌≡◌, ◌++◌, ◌≤◌, drop, vec_capacity}
use Rattle.ocm_entry.specs.declared.rows.Node.{Node}
use Rattle.ocm_rules.specs.Files.{is_at_or_above}
use Rattle.ocm_tree.specs.Tables.{slot_passes}
use Rattle.ocm_tree.specs.Orders.{numbers_where}
use Rattle.ocm_tree.proofs.numbers.copy_each.Given as goal

abbrev pub invariant-loop-index : goal.invariant-loop-index
invariant-loop-index l = record {
  done : l.kept.items ++ numbers_where (slot_passes (λ (n : Node). is_at_or_above l.there n.place)) (drop l.index l.slots) (drop l.index l.numbers)
      ≡ numbers_where (slot_passes (λ (n : Node). is_at_or_above l.there n.place)) l.slots l.numbers;
  capacity : vec_capacity l.initial.kept ≤ vec_capacity l.kept;
}
