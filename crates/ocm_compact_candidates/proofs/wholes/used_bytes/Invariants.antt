use Rattle.std.proofs.Common.{◌≡◌, ◌+◌, length}
use Rattle.ocm_compact_candidates.proofs.wholes.used_bytes.Given as goal

abbrev pub invariant-loop-record : goal.invariant-loop-record
invariant-loop-record l = record {
  fits : l.end + length l.rest ≡ l.fn.place + length l.fn.bytes;
}

abbrev pub decreases-loop-record : goal.decreases-loop-record
decreases-loop-record l = length l.rest
