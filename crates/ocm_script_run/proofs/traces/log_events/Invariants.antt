use Rattle.std.proofs.Common.{◌≡◌, ◌+◌, drop}
use Rattle.ocm_script_run.specs.Traces.{Logged}
use Rattle.ocm_script_run.proofs.Chains.{LeadsOn}
use Rattle.ocm_script_run.proofs.traces.log_events.Given as goal

-- what is logged so far leads on
abbrev pub invariant-loop-event : goal.invariant-loop-event
invariant-loop-event g l = record {
  line : l.number ≡ l.event-index + 1;
  leads : LeadsOn g.S.ScriptServers.stand (λ w k rest text final. Logged w k l.host rest text final) l.events l.servers l.number (drop l.event-index l.events) l.log;
}
