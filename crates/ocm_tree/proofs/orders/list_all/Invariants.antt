use Rattle.std.proofs.Common.{◌≡◌, ◌≤◌, take, vec_len, vec_capacity}
use Rattle.ocm_tree.specs.Orders.{numbered}
use Rattle.ocm_tree.proofs.orders.list_all.Given as goal

abbrev pub invariant-loop-index : goal.invariant-loop-index
invariant-loop-index l = record {
  nodes : l.order.items ≡ numbered 0 (take l.index l.numbers);
  len : vec_len l.order ≡ l.index;
  capacity : vec_capacity l.initial.order ≤ vec_capacity l.order;
}
