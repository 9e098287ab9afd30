use Rattle.ocm_tree.proofs.Lone.{leaf-bare}
use Rattle.ocm_tree.proofs.nodes.NodeTable.is_bare.Goals as goal

pub returns-then-is_leaf : goal.returns-then-is_leaf
returns-then-is_leaf c = λ e. leaf-bare c.args.self.now.slots c.args.place.now (c.is_leaf.ensures c.if-is_leaf.true) c.slot_of.result c.slot_of.ensures c.is_none.result c.is_none.ensures e
