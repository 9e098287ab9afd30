use Rattle.ocm_tree.proofs.TableKept.{same-IsTable}
use Rattle.ocm_tree.proofs.nodes.NodeTable.reserve.Goals as goal

pub invariant_of-self : goal.invariant_of-self
invariant_of-self c = rw c.reserve_all.ensures.slots
    (same-IsTable c.self.inside.root c.self.inside.slots.items c.self.inside.places c.self.inside.children _ _ c.self.inside.count c.self.inside.total c.self.inside.rooted c.self.invariant c.reserve_all.ensures.places c.reserve_all.ensures.children)
