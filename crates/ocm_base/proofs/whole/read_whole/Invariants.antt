use Rattle.std.proofs.Common.{◌-◌, ◌+◌, ◌≤◌, length}
use Rattle.ocm_base.specs.Outside.{Appends, Takes}
use Rattle.ocm_base.proofs.whole.read_whole.Given as goal

-- what was read so far
abbrev pub invariant-loop-n : goal.invariant-loop-n
invariant-loop-n g l =
    let source = g.S.Source in
    record {
      within : length l.bytes ≤ l.limit;
      so_far : Takes (source.left l.fn.source) (source.left l.source) l.bytes;
      received : Appends (source.received l.fn.source) (source.received l.source) l.bytes;
      never_falls : source.faults l.fn.source ≤ source.faults l.source;
    }

abbrev pub decreases-loop-n : goal.decreases-loop-n
decreases-loop-n g l = l.limit + 1 - length l.bytes
