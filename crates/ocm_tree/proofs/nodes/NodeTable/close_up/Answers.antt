use Rattle.std.proofs.Common.{◌∙◌, ap}
use Rattle.std.specs.Prelude.{is_some}
use Rattle.ocm_tree.specs.Tables.{slot_of}
use Rattle.ocm_tree.proofs.Slots.{slot_of-filter}
use Rattle.ocm_tree.proofs.TableKept.{closed-IsTable}
use Rattle.ocm_tree.proofs.nodes.NodeTable.close_up.Goals as goal

pub number_places-requires : goal.number_places-requires
number_places-requires c = record { known = λ q. ap is_some (c.self.invariant.found q) ∙ rw (c.deref.ensures.value, c.drop_empty.ensures.slots) (slot_of-filter c.self.inside.slots.items q) }

pub invariant_of-self : goal.invariant_of-self
invariant_of-self c =
    rw c.drop_empty.ensures.slots (closed-IsTable c.self.inside.root c.self.inside.slots.items c.self.inside.places c.number_places.new.places c.self.inside.children c.self.inside.count c.self.inside.total c.self.inside.rooted c.self.invariant
    (λ q. c.number_places.ensures.found q ∙ ap (λ ss. slot_of ss q) (c.deref.ensures.value ∙ c.drop_empty.ensures.slots)))

pub returns-clause-slots : goal.returns-clause-slots
returns-clause-slots c = rw (← c.self.view_is) c.drop_empty.ensures.slots
