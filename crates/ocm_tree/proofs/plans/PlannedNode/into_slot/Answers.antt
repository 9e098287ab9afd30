use Rattle.std.proofs.Common.{◌∙◌, refl}
use Rattle.ocm_tree.proofs.plans.PlannedNode.into_slot.Goals as goal

pub returns-clause-places : goal.returns-clause-places
returns-clause-places c = λ place.
    let put = rw c.unwrap-before.ensures at c.insert-placed.ensures.updates in
    rw (← c.self.view_is) (put.0 place ∙ rw c.self.invariant.0 refl)

pub returns-clause-children : goal.returns-clause-children
returns-clause-children c = λ place.
    let put = rw c.unwrap-count.ensures at c.insert-counted.ensures.updates in
    rw (← c.self.view_is) (put.0 place ∙ rw c.self.invariant.1 refl)
