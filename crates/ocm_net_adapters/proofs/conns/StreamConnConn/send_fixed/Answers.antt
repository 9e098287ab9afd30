use Rattle.std.proofs.Common.{None, Some, ◌++◌, [], sym, ap, refl, ◌∙◌, append-nil, arith}
use Rattle.ocm_base.specs.Outside.{flow}
use Rattle.ocm_base.specs.declared.ghost_bytes.GhostBytes.{GhostBytes}
use Rattle.ocm_http.specs.Written.{fixed}
use Rattle.ocm_server_connections.specs.Sides.{as_fixed}
use Rattle.ocm_server_connections.specs.declared.page_notes.PageNotes.{PageNotes}
use Rattle.ocm_net_adapters.specs.Conns.{sides_of}
use Rattle.ocm_net_adapters.proofs.Sending.{all_sent, front_sent}
use Rattle.ocm_net_adapters.proofs.conns.StreamConnConn.send_fixed.Goals as goal

pub returns-in-Ok : goal.returns-in-Ok
returns-in-Ok g c =
    let self = c.args.self.now in
    let new = c.write.new.self in
    let w = c.write.ensures in
    let text = c.fixed_text.result.now in
    all_sent (sides_of self.heard.received.bytes self.sent.bytes self.notes.pages self.heard.faults self.faults)
    (sides_of new.heard.received.bytes new.sent.bytes new.notes.pages new.heard.faults new.faults)
    (ap (λ (t : GhostBytes). flow None (Some t.bytes)) w.received) (omega (arith, w.read_faults)) w.never_falls (fixed c.args.which) self.sent.bytes (text ++ []) refl (append-nil text ∙ c.fixed_text.ensures) as_fixed tt
    (ap Some c.in-Ok.ensures.ok)
    (ap Some (ap (λ (n : PageNotes). n.pages) w.notes ∙ sym (append-nil self.notes.pages)))

pub returns-in-Err : goal.returns-in-Err
returns-in-Err g c =
    let self = c.args.self.now in
    let new = c.write.new.self in
    let w = c.write.ensures in
    let text = c.fixed_text.result.now in
    front_sent (sides_of self.heard.received.bytes self.sent.bytes self.notes.pages self.heard.faults self.faults)
    (sides_of new.heard.received.bytes new.sent.bytes new.notes.pages new.heard.faults new.faults)
    (ap (λ (t : GhostBytes). flow None (Some t.bytes)) w.received) (omega (arith, w.read_faults)) w.never_falls (fixed c.args.which) self.sent.bytes (text ++ []) refl (append-nil text ∙ c.fixed_text.ensures) as_fixed _
    (ap Some c.in-Err.ensures.err)
    (ap Some (ap (λ (n : PageNotes). n.pages) w.notes ∙ sym (append-nil self.notes.pages)))
    c.in-Err.ensures.rose
