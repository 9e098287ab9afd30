use Rattle.std.proofs.lemmas.List.Sorted.{IsPermutation-insert, IsNonDecreasingBy-insert}
use Rattle.ocm_tree.specs.declared.orders.NumberedNode.{NumberedNode}
use Rattle.ocm_tree.proofs.orders.put_in_place.Goals as goal

pub returns-clause-nodes : goal.returns-clause-nodes
returns-clause-nodes c =
    let items = rw c.unwrap.ensures at c.insert.ensures.items in
    rw items (IsPermutation-insert c.args.order.now.items c.end_of-place.result c.args.node)

pub returns-clause-sorted : goal.returns-clause-sorted
returns-clause-sorted c =
    let items = rw c.unwrap.ensures at c.insert.ensures.items in
    let at = rw c.deref.ensures.value at c.end_of-place.ensures in
    rw items (IsNonDecreasingBy-insert (λ (node : NumberedNode). node.number) c.args.order.now.items c.end_of-place.result c.args.node c.requires.sorted at.within at.before at.behind)
