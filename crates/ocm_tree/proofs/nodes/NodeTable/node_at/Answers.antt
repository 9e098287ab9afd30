use Rattle.std.proofs.Common.{◌∙◌, sym}
use Rattle.std.specs.Prelude.{None}
use Rattle.ocm_tree.proofs.Slots.{in-slot, none-slot}
use Rattle.ocm_tree.proofs.nodes.NodeTable.node_at.Goals as goal

pub standing_in-requires : goal.standing_in-requires
standing_in-requires c =
    let r = in-slot c.self.inside.slots.items c.args.place.now c.in-Some.index.now (sym (c.self.invariant.found c.args.place.now) ∙ sym c.in-Some.ensures.value) in
    record { within = rw c.deref.ensures.value r.1.within }

pub returns-in-Some : goal.returns-in-Some
returns-in-Some c =
    let r = in-slot c.self.inside.slots.items c.args.place.now c.in-Some.index.now (sym (c.self.invariant.found c.args.place.now) ∙ sym c.in-Some.ensures.value) in
    rw (← c.self.view_is) (c.standing_in.ensures ∙ rw (c.deref.ensures.value, r.1.slot None) (sym r.1.stands))

pub returns-in-None : goal.returns-in-None
returns-in-None c =
    rw (← c.self.view_is) (sym (none-slot c.self.inside.slots.items c.args.place.now (sym (c.self.invariant.found c.args.place.now) ∙ sym c.in-None.ensures.value)))
