use Rattle.std.proofs.Common.{refl, arith, rules}
use Rattle.std.proofs.lemmas.List.{drop_all}
use Rattle.ocm_script_run.proofs.Chains.{LeadsOn-at, LeadsOn-end, LeadsOn-start}
use Rattle.ocm_script_run.proofs.Logging.{LogLeads-more}
use Rattle.ocm_script_run.proofs.traces.log_events.Goals as goal

pub loop-event-init : goal.loop-event-init
loop-event-init g c = record { line = refl; leads = rw c.new-log.ensures (LeadsOn-start g.S.ScriptServers.stand _ _ _ c.requires.none) }

pub loop-event-preserved : goal.loop-event-preserved
loop-event-preserved g c = record {
  line = search rules;
  leads = LogLeads-more g.S.ScriptServers.stand _ _ _ _ c.args.host.now _ _ c.loop-event.log _ _
      (LeadsOn-at g.S.ScriptServers.stand _ _ _ _ _ c.loop-event.event-index c.event-item.result _ (omega arith) c.event-item.is c.loop-event.invariant.leads)
      c.in_ok-line.ensures c.in_ok-add.ensures;
}

pub returns : goal.returns
returns g c = LeadsOn-end g.S.ScriptServers.stand _ _ _ _ _ _ (drop_all c.loop-event.event-index c.args.events.now (omega arith)) (λ w. (refl, refl)) c.loop-event.invariant.leads

pub log_event-requires-clause-stands : goal.log_event-requires-clause-stands
log_event-requires-clause-stands g c = (c.loop-event.invariant.leads.world, c.loop-event.invariant.leads.stands)
