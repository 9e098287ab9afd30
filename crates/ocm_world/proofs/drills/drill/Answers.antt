use Rattle.std.proofs.Common.{inr, subst, ◌∙◌, List, [], sym}
use Rattle.std.specs.List.{concat}
use Rattle.std.proofs.lemmas.Result.{err_from_is_err_and}
use Rattle.ocm_base.specs.Outside.{Appends}
use Rattle.ocm_drill.specs.Script.{made_script}
use Rattle.ocm_script_run.proofs.Drilling.{DrillsPart-cut, texts-transcript}
use Rattle.ocm_world.specs.declared.nodes.RunningServer.{RunningServer}
use Rattle.ocm_world.specs.Running.{AreOf}
use Rattle.ocm_world.proofs.Fronts.{prefix-all, prefix-empty, prefix-whole}
use Rattle.ocm_world.proofs.drills.drill.Goals as goal

pub returns-clause-ok : goal.returns-clause-ok
returns-clause-ok g c =
    let ran = c.in_ok-summary.ensures in
    (ran.1, (ran.0, ran.2, subst (Appends (g.K.Sink.taken c.args.sink.now) (g.K.Sink.taken c.write_all.new.sink)) (c.as_slice.ensures ∙ ran.4) c.in_ok-write_all.ensures.ok), c.in_ok-shelve.ensures.ok ran.1 ran.3)

pub returns-in_err-write_all-clause-shelved : goal.returns-in_err-write_all-clause-shelved
returns-in_err-write_all-clause-shelved g c = λ _. (
    let ran = c.in_ok-summary.ensures in
    (concat ran.0, ran.1, texts-transcript [] ran.1 1 (made_script c.args.number c.args.events) ran.0 ran.2, c.in_ok-shelve.ensures.ok ran.1 ran.3)
    )

pub returns-in_err-write_all-clause-shelf_part : goal.returns-in_err-write_all-clause-shelf_part
returns-in_err-write_all-clause-shelf_part g c =
    let p = err_from_is_err_and c.from_residual-in_err-write_all.result c.from_residual-in_err-write_all.ensures.1 in
    let ran = c.in_ok-summary.ensures in
    let script = made_script c.args.number c.args.events in
    rw p.1 (prefix-all script c.shelve.new.shelf (concat ran.0, ran.1, texts-transcript [] ran.1 1 script ran.0 ran.2, c.in_ok-shelve.ensures.ok ran.1 ran.3))

pub returns-in_err-shelve-clause-shelf_part : goal.returns-in_err-shelve-clause-shelf_part
returns-in_err-shelve-clause-shelf_part g c =
    let p = err_from_is_err_and c.from_residual-in_err-shelve.result c.from_residual-in_err-shelve.ensures.1 in
    let ran = c.in_ok-summary.ensures in
    let script = made_script c.args.number c.args.events in
    rw p.1 (prefix-whole script (concat ran.0) ran.1 c.shelve.new.shelf (texts-transcript [] ran.1 1 script ran.0 ran.2) (c.in_err-shelve.ensures.err ran.1 ran.3))

pub returns-in_err-summary-clause-shelf_part : goal.returns-in_err-summary-clause-shelf_part
returns-in_err-summary-clause-shelf_part g c =
    let p = err_from_is_err_and c.from_residual.result c.from_residual.ensures.1 in
    rw p.1 (prefix-empty (made_script c.args.number c.args.events) c.args.shelf.now c.requires.empty)

pub returns-in_err-write_all-clause-err : goal.returns-in_err-write_all-clause-err
returns-in_err-write_all-clause-err g c =
    let p = err_from_is_err_and c.from_residual-in_err-write_all.result c.from_residual-in_err-write_all.ensures.1 in
    let ran = c.in_ok-summary.ensures in
    rw p.1 (inr (DrillsPart-cut c.args.number c.args.events ran.0 ran.1 c.in_ok-summary.summary _ _ ran.2 ran.4 (rw c.as_slice.ensures at c.in_err-write_all.ensures.err)))

pub summarise-requires-clause-none : goal.summarise-requires-clause-none
summarise-requires-clause-none g c = subst (λ (nodes : List RunningServer). AreOf nodes []) (sym c.new-servers.ensures) tt
