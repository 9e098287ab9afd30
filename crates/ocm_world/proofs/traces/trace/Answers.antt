use Rattle.std.proofs.Common.{inr, sym, ◌∙◌, subst, List, ℕ, Option, []}
use Rattle.std.specs.Option.{IfSome}
use Rattle.ocm_texts.specs.Hex.{AreBytes}
use Rattle.std.proofs.lemmas.Result.{err_from_is_err_and}
use Rattle.ocm_world.proofs.Fronts.{prefix-all, prefix-empty, prefix-whole}
use Rattle.ocm_world.proofs.Hosts.{image-there}
use Rattle.ocm_world.proofs.Logging.{TracesPart-cut}
use Rattle.ocm_world.proofs.Tracing.{logged-traced, traced-run}
use Rattle.ocm_script_run.proofs.Properly.{proper-lines}
use Rattle.ocm_world.specs.declared.nodes.RunningServer.{RunningServer}
use Rattle.ocm_world.specs.Running.{AreOf}
use Rattle.ocm_world.proofs.traces.trace.Goals as goal

pub log_events-requires-clause-proper : goal.log_events-requires-clause-proper
log_events-requires-clause-proper g c = rw c.as_slice.ensures (proper-lines c.args.events.now c.requires.short)

pub unreachable-requires : goal.unreachable-requires
unreachable-requires g c =
    let ran = rw c.as_slice.ensures at c.in_ok-log.ensures in
    let held = image-there ran.0 c.args.host.now c.args.events.now c.in_ok-log.log c.shelve.new.shelf ran.1 c.requires.named (c.in_ok-shelve.ensures.ok ran.0 ran.2) in
    let e = c.in_default.ensures ∙ held.1 in
    cc

pub returns-clause-ok : goal.returns-clause-ok
returns-clause-ok g c =
    let ran = rw c.as_slice.ensures at c.in_ok-log.ensures in
    let traced = logged-traced [] 1 c.args.host.now c.args.events.now c.in_ok-log.log ran.0 ran.1 in (
      ran.0,
      (traced.0, c.in-Some.image.now, c.in_ok-log.log, traced.1, c.in_ok-write_input.ensures.bytes, sym c.in-Some.ensures, rw c.as_slice-2.ensures at c.in_ok-write_input.ensures.ok),
      c.in_ok-shelve.ensures.ok ran.0 ran.2,
    )

pub returns-clause-bytes : goal.returns-clause-bytes
returns-clause-bytes g c = subst (λ (o : Option (List ℕ)). IfSome o AreBytes) c.in-Some.ensures c.in_ok-write_input.ensures.bytes

pub returns-in_err-write_input-clause-shelved : goal.returns-in_err-write_input-clause-shelved
returns-in_err-write_input-clause-shelved g c = λ _. (
    let ran = rw c.as_slice.ensures at c.in_ok-log.ensures in
    let traced = logged-traced [] 1 c.args.host.now c.args.events.now c.in_ok-log.log ran.0 ran.1 in
    (traced.0, ran.0, traced-run [] 1 c.args.host.now c.args.events.now traced.0 c.in_ok-log.log ran.0 traced.1, c.in_ok-shelve.ensures.ok ran.0 ran.2)
    )

pub returns-in_err-write_input-clause-shelf_part : goal.returns-in_err-write_input-clause-shelf_part
returns-in_err-write_input-clause-shelf_part g c =
    let p = err_from_is_err_and c.from_residual-in_err-write_input.result c.from_residual-in_err-write_input.ensures.1 in
    let ran = rw c.as_slice.ensures at c.in_ok-log.ensures in
    let traced = logged-traced [] 1 c.args.host.now c.args.events.now c.in_ok-log.log ran.0 ran.1 in
    rw p.1
    (prefix-all c.args.events.now c.shelve.new.shelf
    (traced.0, ran.0, traced-run [] 1 c.args.host.now c.args.events.now traced.0 c.in_ok-log.log ran.0 traced.1, c.in_ok-shelve.ensures.ok ran.0 ran.2))

pub returns-in_err-shelve-clause-shelf_part : goal.returns-in_err-shelve-clause-shelf_part
returns-in_err-shelve-clause-shelf_part g c =
    let p = err_from_is_err_and c.from_residual-in_err-shelve.result c.from_residual-in_err-shelve.ensures.1 in
    let ran = rw c.as_slice.ensures at c.in_ok-log.ensures in
    let traced = logged-traced [] 1 c.args.host.now c.args.events.now c.in_ok-log.log ran.0 ran.1 in
    rw p.1
    (prefix-whole c.args.events.now traced.0 ran.0 c.shelve.new.shelf (traced-run [] 1 c.args.host.now c.args.events.now traced.0 c.in_ok-log.log ran.0 traced.1)
    (c.in_err-shelve.ensures.err ran.0 ran.2))

pub returns-in_err-log-clause-shelf_part : goal.returns-in_err-log-clause-shelf_part
returns-in_err-log-clause-shelf_part g c =
    let p = err_from_is_err_and c.from_residual.result c.from_residual.ensures.1 in
    rw p.1 (prefix-empty c.args.events.now c.args.shelf.now c.requires.empty)

pub returns-in_err-write_input-clause-err : goal.returns-in_err-write_input-clause-err
returns-in_err-write_input-clause-err g c =
    let p = err_from_is_err_and c.from_residual-in_err-write_input.result c.from_residual-in_err-write_input.ensures.1 in
    let ran = rw c.as_slice.ensures at c.in_ok-log.ensures in
    let traced = logged-traced [] 1 c.args.host.now c.args.events.now c.in_ok-log.log ran.0 ran.1 in
    rw p.1
    (inr (
      ran.0,
      TracesPart-cut c.args.events.now c.args.host.now traced.0 c.in_ok-log.log c.in-Some.image.now ran.0 c.shelve.new.shelf _ _ traced.1 (c.in_ok-shelve.ensures.ok ran.0 ran.2) c.in_err-write_input.ensures.bytes
          (sym c.in-Some.ensures) (rw c.as_slice-2.ensures at c.in_err-write_input.ensures.err),
    ))

pub log_events-requires-clause-none : goal.log_events-requires-clause-none
log_events-requires-clause-none g c = subst (λ (nodes : List RunningServer). AreOf nodes []) (sym c.new-servers.ensures) tt
