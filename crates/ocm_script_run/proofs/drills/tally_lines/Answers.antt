use Rattle.std.proofs.Common.{refl, arith, rules}
use Rattle.std.proofs.lemmas.List.{drop_all}
use Rattle.ocm_script_run.proofs.Drilling.{Tallies-at, Tallies-end, Tallies-more, Tallies-start}
use Rattle.ocm_script_run.proofs.drills.tally_lines.Goals as goal

pub loop-event-init : goal.loop-event-init
loop-event-init g c = record { line = refl; tallies = Tallies-start g.S.ScriptServers.stand _ _ _ c.requires.none c.in_ok-tally.ensures }

pub loop-event-preserved : goal.loop-event-preserved
loop-event-preserved g c = record {
  line = search rules;
  tallies = Tallies-more g.S.ScriptServers.stand _ _ _ _ _ _ _ _ _ (omega arith)
      (Tallies-at g.S.ScriptServers.stand _ _ _ _ c.loop-event.event-index c.event-item.result _ (omega arith) c.event-item.is c.loop-event.invariant.tallies)
      c.in_ok-text.ensures (rw c.as_slice.ensures at c.add.ensures);
}

pub returns : goal.returns
returns g c = Tallies-end g.S.ScriptServers.stand _ _ _ _ _ (drop_all c.loop-event.event-index c.args.events.now (omega arith)) c.loop-event.invariant.tallies

pub run-requires-clause-stands : goal.run-requires-clause-stands
run-requires-clause-stands g c = (c.loop-event.invariant.tallies.leads.world, c.loop-event.invariant.tallies.leads.stands)
