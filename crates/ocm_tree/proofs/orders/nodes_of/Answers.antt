use Rattle.std.proofs.Common.{◌∙◌, ap}
use Rattle.std.specs.Prelude.{filter, nat_le}
use Rattle.ocm_tree.specs.declared.orders.NumberedNode.{NumberedNode}
use Rattle.ocm_tree.proofs.Parted.{rest-drop}
use Rattle.ocm_tree.proofs.orders.nodes_of.Goals as goal

pub returns : goal.returns
returns c = c.end_of.ensures.earlier ∙ ap (filter (λ (node : NumberedNode). nat_le node.number c.args.number)) (rest-drop c.args.order.now c.start_of.result ∙ c.start_of.ensures.later)
