use Rattle.std.proofs.Common.{◌≤◌, ℕ, List, [], take}
use Rattle.ocm_logcheck.specs.Replays.{IsReplayOf}
use Rattle.ocm_logcheck.proofs.Going.{Opened}
use Rattle.ocm_logcheck.proofs.replays.run.Given as goal

abbrev pub invariant-loop-record : goal.invariant-loop-record
invariant-loop-record l = record {
  room : l.replay.place ≤ l.record-index;
  opened : (host : List ℕ) → IsReplayOf host l.lines l.fn.replay [] → Opened host l.form l.lines (take l.record-index l.records) l.replay;
}
