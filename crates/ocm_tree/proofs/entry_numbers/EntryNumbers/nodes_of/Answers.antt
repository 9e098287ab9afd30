use Rattle.std.proofs.Common.{◌∙◌, List, ap, nat_eq}
use Rattle.std.specs.Prelude.{filter, nat_le}
use Rattle.std.specs.List.{list_any}
use Rattle.ocm_tree.specs.declared.orders.NumberedNode.{NumberedNode}
use Rattle.ocm_tree.specs.Orders.{from_number}
use Rattle.ocm_tree.proofs.NumberCounts.{found-nodes}
use Rattle.ocm_tree.proofs.entry_numbers.EntryNumbers.nodes_of.Goals as goal

pub returns : goal.returns
returns c = λ index.
    rw (← c.self.view_is)
    (ap (list_any (λ (node : NumberedNode). nat_eq node.index index)) (c.nodes_of.ensures ∙ ap (λ (order : List NumberedNode). filter (λ (node : NumberedNode). nat_le node.number c.args.number) (from_number c.args.number order)) c.deref.ensures.value)
    ∙ found-nodes c.self.inside.numbers.items c.self.inside.order.items c.self.invariant c.args.number index)
