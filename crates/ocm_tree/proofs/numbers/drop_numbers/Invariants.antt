use Rattle.std.proofs.Common.{◌≡◌, ◌++◌, ◌≤◌, length, take, drop, vec_capacity}
use Rattle.std.specs.Prelude.{is_some}
use Rattle.ocm_tree.specs.Orders.{numbers_where}
use Rattle.ocm_tree.proofs.numbers.drop_numbers.Given as goal

abbrev pub invariant-loop-index : goal.invariant-loop-index
invariant-loop-index l = record {
  within : l.kept ≤ l.index;
  len : length l.numbers.items ≡ length l.slots;
  left : drop l.index l.numbers.items ≡ drop l.index l.initial.numbers.items;
  done : take l.kept l.numbers.items ++ numbers_where is_some (drop l.index l.slots) (drop l.index l.initial.numbers.items)
      ≡ numbers_where is_some l.slots l.initial.numbers.items;
  capacity : vec_capacity l.numbers ≡ vec_capacity l.initial.numbers;
}
