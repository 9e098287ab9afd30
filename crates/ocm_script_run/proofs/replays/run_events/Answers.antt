use Rattle.std.proofs.Common.{refl, arith, rules}
use Rattle.std.proofs.lemmas.List.{drop_all}
use Rattle.std.proofs.lemmas.Result.{err_from_is_err_and}
use Rattle.ocm_script_run.proofs.Scripts.{GoesOn-at, GoesOn-more, GoesOn-start, Writes-from_end, WritesPart-cut, WritesPart-stop}
use Rattle.ocm_script_run.proofs.replays.run_events.Goals as goal

pub loop-event-init : goal.loop-event-init
loop-event-init g c = record { line = refl; goes_on = GoesOn-start g.S.ScriptServers.stand _ _ _ c.requires.none; never_falls = search rules }

pub loop-event-preserved : goal.loop-event-preserved
loop-event-preserved g c = record {
  line = search rules;
  goes_on = GoesOn-more g.S.ScriptServers.stand _ _ _ _ _ _ _ _ _ _
      (GoesOn-at g.S.ScriptServers.stand _ _ _ _ c.loop-event.event-index c.event-item.result _ _ (omega arith) c.event-item.is c.loop-event.invariant.goes_on)
      c.in_ok-text.ensures (rw c.as_slice.ensures at c.in_ok-write_all.ensures.ok);
  never_falls = search rules;
}

pub returns-in_err-text-clause-err : goal.returns-in_err-text-clause-err
returns-in_err-text-clause-err g c =
    let p = err_from_is_err_and c.from_residual.result c.from_residual.ensures.1 in
    rw p.1 (WritesPart-stop g.S.ScriptServers.stand _ _ _ _ _ _ c.loop-event.invariant.goes_on)

pub returns-in_err-write_all-clause-err : goal.returns-in_err-write_all-clause-err
returns-in_err-write_all-clause-err g c =
    let p = err_from_is_err_and c.from_residual-in_err-write_all.result c.from_residual-in_err-write_all.ensures.1 in
    rw p.1
    (WritesPart-cut g.S.ScriptServers.stand _ _ _ _ _ _ _ _ _ _
    (GoesOn-at g.S.ScriptServers.stand _ _ _ _ c.loop-event.event-index c.event-item.result _ _ (omega arith) c.event-item.is c.loop-event.invariant.goes_on)
    c.in_ok-text.ensures (rw c.as_slice.ensures at c.in_err-write_all.ensures.err))

pub returns-clause-ok : goal.returns-clause-ok
returns-clause-ok g c = Writes-from_end g.S.ScriptServers.stand _ _ _ _ _ _ (drop_all c.loop-event.event-index c.args.events.now (omega arith)) c.loop-event.invariant.goes_on

pub run-requires-clause-stands : goal.run-requires-clause-stands
run-requires-clause-stands g c = (c.loop-event.invariant.goes_on.leads.world, c.loop-event.invariant.goes_on.leads.stands)
