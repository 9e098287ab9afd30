use Rattle.std.proofs.Common.{◌≡◌, take}
use Rattle.std.specs.Prelude.{map, filter}
use Rattle.ocm_tree.specs.Listing.{child_of, lies_in}
use Rattle.ocm_tree.specs.Tables.{somes}
use Rattle.ocm_tree.proofs.listing.unsorted_children.Given as goal

abbrev pub invariant-loop-index : goal.invariant-loop-index
invariant-loop-index l = l.found.items ≡ map child_of (filter (lies_in l.place) (somes (take l.index l.slots)))
