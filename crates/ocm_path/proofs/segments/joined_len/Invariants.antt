use Rattle.std.proofs.Common.{◌≡◌, ◌-◌, ◌^◌, min, length, take}
use Rattle.ocm_path.specs.Paths.{joined}
use Rattle.ocm_path.proofs.segments.joined_len.Given as goal

abbrev pub invariant-loop-segment : goal.invariant-loop-segment
invariant-loop-segment l = l.len ≡ min (length (joined (take l.segment-index l.segments))) (2 ^ 64 - 1)
