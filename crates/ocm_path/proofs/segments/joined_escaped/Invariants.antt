use Rattle.std.proofs.Common.{◌≡◌, string_bytes, take}
use Rattle.ocm_path.specs.Paths.{joined_escaped}
use Rattle.ocm_path.proofs.segments.joined_escaped.Given as goal

abbrev pub invariant-loop-segment : goal.invariant-loop-segment
invariant-loop-segment l = string_bytes l.text ≡ joined_escaped (take l.segment-index l.segments)
