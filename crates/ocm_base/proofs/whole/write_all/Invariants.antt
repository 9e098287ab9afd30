use Rattle.std.proofs.Common.{◌≡◌, ◌-◌, ◌≤◌, length, take}
use Rattle.ocm_base.specs.Outside.{Appends}
use Rattle.ocm_base.proofs.whole.write_all.Given as goal

-- the front of the piece was taken so far
abbrev pub invariant-loop-done : goal.invariant-loop-done
invariant-loop-done g l =
    let sink = g.K.Sink in
    record {
      within : l.done ≤ length l.piece;
      so_far : Appends (sink.taken l.fn.sink) (sink.taken l.sink) (take l.done l.piece);
      untouched : l.done ≡ 0 → l.sink ≡ l.fn.sink;
      never_falls : sink.faults l.fn.sink ≤ sink.faults l.sink;
    }

abbrev pub decreases-loop-done : goal.decreases-loop-done
decreases-loop-done g l = length l.piece - l.done
