use Rattle.std.proofs.Common.{◌≡◌, ◌+◌, ◌≤◌, drop}
use Rattle.ocm_script_run.proofs.Scripts.{GoesOn}
use Rattle.ocm_script_run.proofs.replays.run_events.Given as goal

-- what is printed so far leads on
abbrev pub invariant-loop-event : goal.invariant-loop-event
invariant-loop-event g l =
    let sink = g.K.Sink in
    record {
      line : l.number ≡ l.event-index + 1;
      goes_on : GoesOn g.S.ScriptServers.stand l.events l.servers l.number (drop l.event-index l.events) (sink.taken l.fn.sink) (sink.taken l.sink);
      never_falls : sink.faults l.fn.sink ≤ sink.faults l.sink;
    }
