use Rattle.std.proofs.Common.{rules}
use Rattle.std.proofs.lemmas.List.Sorted.{IsNonDecreasingBy-from_sort_by_key}
use Rattle.ocm_tree.specs.declared.orders.NumberedNode.{NumberedNode}
use Rattle.ocm_tree.proofs.NumberCounts.{sorted-in_order}
use Rattle.ocm_tree.proofs.orders.put_in_order.Goals as goal

pub returns-clause-order : goal.returns-clause-order
returns-clause-order c =
    let permuted = rw c.list_all.ensures.nodes at c.sort_unstable_by_key.ensures.permutation in
    let up = IsNonDecreasingBy-from_sort_by_key (λ (node : NumberedNode). node.number) _ c.sort_unstable_by_key.ensures.sorted (λ a r q k. search rules) in
    sorted-in_order c.args.numbers.now c.sort_unstable_by_key.new.self.items permuted up
