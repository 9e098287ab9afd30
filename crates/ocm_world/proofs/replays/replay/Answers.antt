use Rattle.std.proofs.Common.{List, [], sym, subst}
use Rattle.std.proofs.lemmas.Result.{err_from_is_err_and}
use Rattle.ocm_script_run.proofs.Properly.{proper-lines}
use Rattle.ocm_script_run.proofs.Scripts.{WritesPart-whole}
use Rattle.ocm_world.specs.declared.nodes.RunningServer.{RunningServer}
use Rattle.ocm_world.specs.Running.{AreOf}
use Rattle.ocm_world.proofs.Fronts.{prefix-empty, prefix-whole}
use Rattle.ocm_world.proofs.replays.replay.Goals as goal

pub run_events-requires-clause-proper : goal.run_events-requires-clause-proper
run_events-requires-clause-proper g c = rw c.as_slice.ensures (proper-lines c.args.events.now c.requires.short)

pub returns-clause-ok : goal.returns-clause-ok
returns-clause-ok g c =
    let ran = c.in_ok-run_events.ensures.ok in
    (ran.0, rw c.as_slice.ensures at ran.1, c.in_ok-shelve.ensures.ok ran.0 ran.2)

pub returns-in_err-shelve-clause-err : goal.returns-in_err-shelve-clause-err
returns-in_err-shelve-clause-err g c =
    let p = err_from_is_err_and c.from_residual-in_err-shelve.result c.from_residual-in_err-shelve.ensures.1 in
    let ran = c.in_ok-run_events.ensures.ok in
    rw p.1 (WritesPart-whole c.args.events.now (g.K.Sink.taken c.args.sink.now) (g.K.Sink.taken c.run_events.new.sink) ran.0 (rw c.as_slice.ensures at ran.1))

pub returns-in_err-shelve-clause-shelf_part : goal.returns-in_err-shelve-clause-shelf_part
returns-in_err-shelve-clause-shelf_part g c =
    let p = err_from_is_err_and c.from_residual-in_err-shelve.result c.from_residual-in_err-shelve.ensures.1 in
    let ran = rw c.as_slice.ensures at c.in_ok-run_events.ensures.ok in
    rw p.1 (prefix-whole c.args.events.now ran.1.0 ran.0 c.shelve.new.shelf ran.1.2 (c.in_err-shelve.ensures.err ran.0 ran.2))

pub returns-in_err-run_events-clause-shelf_part : goal.returns-in_err-run_events-clause-shelf_part
returns-in_err-run_events-clause-shelf_part g c =
    let p = err_from_is_err_and c.from_residual.result c.from_residual.ensures.1 in
    rw p.1 (prefix-empty c.args.events.now c.args.shelf.now c.requires.empty)

pub run_events-requires-clause-none : goal.run_events-requires-clause-none
run_events-requires-clause-none g c = subst (λ (nodes : List RunningServer). AreOf nodes []) (sym c.new-servers.ensures) tt
