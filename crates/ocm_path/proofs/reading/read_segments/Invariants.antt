use Rattle.std.proofs.Common.{◌≡◌, length, drop}
use Rattle.std.specs.List.{slice_split}
use Rattle.ocm_path.specs.Paths.{is_slash, segments_of}
use Rattle.ocm_path.proofs.SegmentsRead.{with_front}
use Rattle.ocm_path.proofs.reading.read_segments.Given as goal

abbrev pub invariant-loop-piece : goal.invariant-loop-piece
invariant-loop-piece l = record {
  can_next : (goal.iterator-loop-piece).can_next l.piece-iterator;
  is_finite : (goal.iterator-loop-piece).is_finite l.piece-iterator;
  reads : with_front l.segments (segments_of (drop (length l.yielded) (slice_split is_slash l.pieces))) ≡ segments_of (slice_split is_slash l.pieces);
}
