use Rattle.std.proofs.Common.{◌≡◌, string_bytes, take}
use Rattle.ocm_path.specs.Paths.{joined}
use Rattle.ocm_path.proofs.segments.joined.Given as goal

abbrev pub invariant-loop-segment : goal.invariant-loop-segment
invariant-loop-segment l = string_bytes l.text ≡ joined (take l.segment-index l.segments)
