use Rattle.std.proofs.Common.{◌≡◌, None, drop}
use Rattle.ocm_tree.specs.Changes.{act_of, passes}
use Rattle.ocm_tree.specs.Tables.{slot_passes}
use Rattle.ocm_tree.specs.Standings.{least_among, passes_at}
use Rattle.ocm_tree.proofs.firsts.least_of.Given as goal

abbrev pub invariant-loop-node : goal.invariant-loop-node
invariant-loop-node l =
    least_among (passes_at (slot_passes (passes l.part (act_of l.change))) l.slots) (drop l.node-index l.found) l.least ≡ least_among (passes_at (slot_passes (passes l.part (act_of l.change))) l.slots) l.found None
