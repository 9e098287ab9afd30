use denote.Exit as exits
use denote.Param.{arg, param}
use denote.Param.Send.{arg_send, param_send}
use mir.Syntax.{ty_unit}
use Rattle.std.proofs.Common.{◌≡◌, ◌∙◌, [], sym, ap, subst}
use Rattle.ocm_serve_store.proofs.Sending.{followed-send}
use Rattle.ocm_serve_store.proofs.Told.{served}
use Rattle.ocm_serve_store.specs.Following.{store_in, store_of}
use Rattle.ocm_serve_store.specs.contracts.followed.Followed as followed
use Rattle.ocm_serve_store.specs.declared.followed.StoreOrFront.{StoreOrFront}
use Rattle.ocm_store.specs.Stores.{IsLegalUnder, Stands, disk_of, terms_of}
use Rattle.ocm_serve_store.proofs.serving.serve_store.Goals as goal

pub serve_object-requires-clause-value : goal.serve_object-requires-clause-value
serve_object-requires-clause-value g c κs within =
    let r = c.requires.store in
    let is : store_of c.new.result ≡ c.args.store = ap (λ (held : StoreOrFront g.row.D.Denot g.D.Disk). store_in held) c.new.ensures.held in
    (r.0, r.1, (subst (λ s. Stands g.D.Disk s r.0 []) (sym is) r.2, is ∙ sym c.new.ensures.born), subst (λ s. IsLegalUnder (terms_of s) r.0 []) (sym is) r.3)

pub returns-in-Ok-clause-served : goal.returns-in-Ok-clause-served
returns-in-Ok-clause-served g c = λ calls own has. let s = c.in-Ok.ensures.served in
    served g.D.Disk _ _ c.args.store c.new.result c.in-Ok.done.value _ calls own c.in-Ok.done.calls c.in-Ok.done.own _ s.0 s.1 (ap (λ (held : StoreOrFront g.row.D.Denot g.D.Disk). store_in held) c.new.ensures.held) c.new.ensures.born
    (c.ended-served.ensures.counts calls own has) s.2 s.3 s.4 (c.into_disk.ensures ∙ ap disk_of c.into_store.ensures)

pub returns-in-Ok-clause-unasked : goal.returns-in-Ok-clause-unasked
returns-in-Ok-clause-unasked g c = λ unserved. absurd (c.ended-served.ensures.served unserved)

pub returns-in-Ok-clause-kept : goal.returns-in-Ok-clause-kept
returns-in-Ok-clause-kept g c = λ unserved. absurd (c.ended-served.ensures.served unserved)

pub serve_object-requires-send-T : goal.serve_object-requires-send-T
serve_object-requires-send-T g c κs within =
    let row = followed.the_row (param 1 g.row.D) g.D.Disk in
    let sends = followed-send (param 1 g.row.D) g.D.Disk c.type_bounds.send-D in
    let passed = param_send 1 (arg ty_unit exits.no row) (arg_send ty_unit exits.no row sends) in
    record { owned = sends.owned; leaving = passed.leaving }
