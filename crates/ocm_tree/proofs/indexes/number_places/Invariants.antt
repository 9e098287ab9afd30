use Rattle.ocm_tree.proofs.Numbered.{IsNumberedFrom}
use Rattle.ocm_tree.proofs.indexes.number_places.Given as goal

abbrev pub invariant-loop-left : goal.invariant-loop-left
invariant-loop-left l = IsNumberedFrom l.slots l.initial.places l.places l.left

abbrev pub decreases-loop-left : goal.decreases-loop-left
decreases-loop-left l = l.left
