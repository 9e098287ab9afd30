use Rattle.ocm_tree.proofs.Lone.{leaf-IsLone}
use Rattle.ocm_tree.proofs.nodes.NodeTable.lone_slot.Goals as goal

pub returns-then-is_leaf : goal.returns-then-is_leaf
returns-then-is_leaf c = rw (← c.self.view_is) (leaf-IsLone c.self.inside.slots.items c.args.place.now (rw (← c.self.view_is) at c.is_leaf.ensures c.if-is_leaf.true) c.self.invariant.once c.slot_of.result (rw (← c.self.view_is) at c.slot_of.ensures))
