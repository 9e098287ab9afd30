use Rattle.std.proofs.Common.{◌≡◌, slice_index}
use Rattle.ocm_drill.specs.Summary.{lines_below}
use Rattle.ocm_drill.proofs.tallies.lines_of.Given as goal

abbrev pub invariant-loop-status : goal.invariant-loop-status
invariant-loop-status l = l.lines ≡ lines_below l.status (λ status. slice_index l.counts status)
