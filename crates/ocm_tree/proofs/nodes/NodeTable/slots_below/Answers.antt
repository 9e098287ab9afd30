use Rattle.ocm_tree.specs.Tables.{IsLone}
use Rattle.ocm_tree.proofs.Lone.{filter-lone}
use Rattle.ocm_tree.proofs.nodes.NodeTable.slots_below.Goals as goal

pub returns-in-Some : goal.returns-in-Some
returns-in-Some c =
    let slots = c.self.inside.slots.items in
    let lone : IsLone slots c.args.place.now c.in-Some.index = rw (c.in-Some.is, ← c.self.view_is) at c.lone_slot.ensures in
    rw (c.one_of.ensures, c.deref.ensures.value, ← c.self.view_is) (filter-lone c.args.place.now slots c.in-Some.index lone)
