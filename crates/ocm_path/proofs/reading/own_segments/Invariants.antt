use Rattle.std.proofs.Common.{length}
use Rattle.std.specs.List.{slice_split}
use Rattle.ocm_path.specs.Paths.{is_slash}
use Rattle.ocm_path.proofs.TextRead.{IsTaken}
use Rattle.ocm_path.proofs.reading.own_segments.Given as goal

abbrev pub invariant-loop-piece : goal.invariant-loop-piece
invariant-loop-piece l = record {
  can_next : (goal.iterator-loop-piece).can_next l.piece-iterator;
  is_finite : (goal.iterator-loop-piece).is_finite l.piece-iterator;
  taken : IsTaken l.segments (slice_split is_slash l.pieces) (length l.yielded);
}
