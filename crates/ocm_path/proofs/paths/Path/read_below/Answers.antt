use Rattle.std.proofs.Common.{◌≡◌, arith, ap, length}
use Rattle.std.specs.List.{slice_split}
use Rattle.ocm_path.specs.Paths.{Segments, is_slash, joined}
use Rattle.ocm_path.proofs.Joining.{length-path_text, is_path-from_parts}
use Rattle.ocm_path.proofs.SegmentsRead.{list_all-segments_of}
use Rattle.ocm_path.proofs.paths.Path.read_below.Goals as goal

pub invariant_of-result : goal.invariant_of-result
invariant_of-result c =
    let path = c.in_ok-segments.segments in
    let lengths = length-path_text path in
    let slice : length (joined c.as_slice.result.now) ≡ length (joined path) = ap (λ (p : Segments). length (joined p)) c.as_slice.ensures in
    is_path-from_parts path (list_all-segments_of (slice_split is_slash c.without_last_slash.result.now) path c.in_ok-segments.ensures.ok) (omega arith)
