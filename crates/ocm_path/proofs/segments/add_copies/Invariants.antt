use Rattle.std.proofs.Common.{◌≡◌, ◌++◌, take}
use Rattle.ocm_path.proofs.segments.add_copies.Given as goal

abbrev pub invariant-loop-segment : goal.invariant-loop-segment
invariant-loop-segment l = l.segments ≡ l.initial.segments ++ take l.segment-index l.more
