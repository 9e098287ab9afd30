use denote.Exit as exits
use denote.Param.{arg, param}
use denote.Param.Send.{IsSend, arg_send, param_send}
use denote.Param.SendFields.{declared_send}
use denote.RattleType.{RattleType}
use mir.Syntax.{ty_unit}
use Rattle.std.proofs.Common.{◌≡◌, ◌∙◌, [], sym, ap, subst}
use Rattle.std.specs.Prelude.{IfSome}
use Rattle.ocm_disk.specs.declared.disk.Disk.{Ghosts}
use Rattle.ocm_server.specs.declared.served.Served.{Served}
use Rattle.ocm_serve_store.specs.Runs.{HasServed, IsUnserved}
use Rattle.ocm_serve_store.specs.Following.{store_in, store_of}
use Rattle.ocm_serve_store.specs.declared.followed.StoreOrFront.{StoreOrFront}
use Rattle.ocm_serve_log.specs.contracts.logged.LoggedStore as logged
use Rattle.ocm_serve_log.proofs.Holding.{begun}
use Rattle.ocm_serve_log.proofs.Told.{logged_run}
use Rattle.ocm_serve_store.proofs.Sending.{followed-send}
use Rattle.ocm_serve_log.proofs.logs.Log.TheSendSync as log
use Rattle.ocm_store.specs.Stores.{IsLegalUnder, Stands, terms_of}
use Rattle.ocm_serve_log.proofs.serving.serve_logged_store.Goals as goal

pub serve_object-requires-clause-value : goal.serve_object-requires-clause-value
serve_object-requires-clause-value g c κs within =
    let r = c.requires.store in
    let made = c.new-logged.ensures in
    let is = ap (λ l. store_of l.followed) made ∙ ap (λ (held : StoreOrFront g.row.D.Denot g.D.Disk). store_in held) c.new-followed.ensures.held in
    let born = ap (λ l. l.followed.born.value) made ∙ c.new-followed.ensures.born in
    let new = c.new-logged.result in
    let same = ap (λ l. l.log) made in
    let fresh = subst (λ s. IfSome (g.K.Sink.taken s) (λ bytes. bytes ≡ [])) (sym (ap (λ l. l.sink) same ∙ c.new-log.ensures.sink)) c.requires.fresh in
    let empty = c.new-log.ensures.empty in
    let none = begun (g.K.Sink.taken new.log.sink) (g.K.Sink.faults new.log.sink) new.log.gathered.items new.log.waiting new.log.left_out new.log.out_of_memory fresh
    (ap (λ l. l.gathered.items) same ∙ empty.0) (ap (λ l. l.waiting) same ∙ empty.1) (ap (λ l. l.left_out) same ∙ empty.2) (ap (λ l. l.out_of_memory) same ∙ empty.3) in (
      r.0,
      r.1,
      ((subst (λ s. Stands g.D.Disk s r.0 []) (sym is) r.2, is ∙ sym born), none, tt),
      subst (λ s. IsLegalUnder (terms_of s) r.0 []) (sym is) r.3,
    )

pub returns-in-Ok-clause-served : goal.returns-in-Ok-clause-served
returns-in-Ok-clause-served g c = λ calls own has. let s = c.in-Ok.ensures.served in
    logged_run g.D.Disk (λ l. l.followed) (λ l. l.log) g.K.Sink.taken g.K.Sink.faults _ _ c.args.store c.new-logged.result c.in-Ok.done.value _ calls own c.in-Ok.done.calls c.in-Ok.done.own _ s.0 s.1 _ _ _ _
    (ap (λ l. store_of l.followed) c.new-logged.ensures ∙ ap (λ (held : StoreOrFront g.row.D.Denot g.D.Disk). store_in held) c.new-followed.ensures.held) (ap (λ l. l.followed.born.value) c.new-logged.ensures ∙ c.new-followed.ensures.born)
    (c.ended-served.ensures.counts calls own (subst (λ (r : Served). HasServed r calls own) c.run_of.ensures.served has)) s.2 s.3 s.4 c.run_of.ensures.disk c.run_of.ensures.log

pub returns-in-Ok-clause-ended : goal.returns-in-Ok-clause-ended
returns-in-Ok-clause-ended g c = λ calls own is. c.ended-served.ensures.ended calls own (sym c.run_of.ensures.served ∙ is)

pub returns-in-Ok-clause-fault : goal.returns-in-Ok-clause-fault
returns-in-Ok-clause-fault g c = λ calls own is. c.ended-served.ensures.fault calls own (sym c.run_of.ensures.served ∙ is)

pub returns-in-Ok-clause-unasked : goal.returns-in-Ok-clause-unasked
returns-in-Ok-clause-unasked g c = λ unserved. absurd (c.ended-served.ensures.served (subst (λ (r : Served). IsUnserved r) c.run_of.ensures.served unserved))

pub returns-in-Ok-clause-kept : goal.returns-in-Ok-clause-kept
returns-in-Ok-clause-kept g c = λ unserved. absurd (c.ended-served.ensures.served (subst (λ (r : Served). IsUnserved r) c.run_of.ensures.served unserved))

pub returns-in-Err-clause-served : goal.returns-in-Err-clause-served
returns-in-Err-clause-served g c = λ calls own has. absurd (subst (λ (r : Served). HasServed r calls own) c.run_of-in-Err.ensures.served has)

pub returns-in-Ok-clause-unlogged : goal.returns-in-Ok-clause-unlogged
returns-in-Ok-clause-unlogged g c = λ unserved. absurd (c.ended-served.ensures.served (subst (λ (r : Served). IsUnserved r) c.run_of.ensures.served unserved))

pub returns-in-Err-clause-unlogged : goal.returns-in-Err-clause-unlogged
returns-in-Err-clause-unlogged g c = λ _.
    let same = ap (λ l. l.log) (c.in-Err.ensures.same ∙ c.new-logged.ensures) in
    let empty = c.new-log.ensures.empty in
    let back = c.run_of-in-Err.ensures.empty (ap (λ l. l.gathered.items) same ∙ empty.0) in
    (back.0 ∙ ap (λ l. l.sink) same ∙ c.new-log.ensures.sink, back.1 ∙ ap (λ l. l.left_out) same ∙ empty.2, c.run_of-in-Err.ensures.memory ∙ ap (λ l. l.out_of_memory) same ∙ empty.3)

-- a store with a log goes to another thread where its disk and its sink do
logged-send : (T K : RattleType) (d : Ghosts T.Denot) → IsSend T → IsSend K → IsSend (logged.the_row T K d)
logged-send T K d s k = declared_send (logged.the_type T K d) (followed-send T d s, (log.the_send K k, tt))

pub serve_object-requires-send-T : goal.serve_object-requires-send-T
serve_object-requires-send-T g c κs within =
    let row = logged.the_row (param 1 g.row.D) (param 5 g.row.K) g.D.Disk in
    let sends = logged-send (param 1 g.row.D) (param 5 g.row.K) g.D.Disk c.type_bounds.send-D c.type_bounds.send-K in
    let passed = param_send 1 (arg ty_unit exits.no row) (arg_send ty_unit exits.no row sends) in
    record { owned = sends.owned; leaving = passed.leaving }
