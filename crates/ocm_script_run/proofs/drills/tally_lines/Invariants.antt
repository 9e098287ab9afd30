use Rattle.std.proofs.Common.{◌≡◌, ◌+◌, drop}
use Rattle.ocm_script_run.proofs.Drilling.{Tallies}
use Rattle.ocm_script_run.proofs.drills.tally_lines.Given as goal

-- what is tallied so far leads on
abbrev pub invariant-loop-event : goal.invariant-loop-event
invariant-loop-event g l = record {
  line : l.number ≡ l.event-index + 1;
  tallies : Tallies g.S.ScriptServers.stand l.events l.servers l.number (drop l.event-index l.events) l.tally;
}
