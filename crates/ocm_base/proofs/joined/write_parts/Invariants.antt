use Rattle.std.proofs.Common.{◌-◌, ◌≤◌, ◌++◌, length, take}
use Rattle.ocm_base.specs.Outside.{Appends}
use Rattle.ocm_base.proofs.joined.write_parts.Given as goal

-- the front of both pieces was taken so far
abbrev pub invariant-loop-done : goal.invariant-loop-done
invariant-loop-done g l =
    let sink = g.K.Sink in
    record {
      within : l.done ≤ length (l.first ++ l.second);
      so_far : Appends (sink.taken l.fn.sink) (sink.taken l.sink) (take l.done (l.first ++ l.second));
      never_falls : sink.faults l.fn.sink ≤ sink.faults l.sink;
    }

abbrev pub decreases-loop-done : goal.decreases-loop-done
decreases-loop-done g l = length (l.first ++ l.second) - l.done
