use Rattle.std.proofs.Common.{None, Some, ◌++◌, List, ℕ, [], ◌∷◌, take, sym, ap, refl, ◌∙◌, arith}
use Rattle.std.proofs.lemmas.List.{take_all}
use Rattle.ocm_base.specs.Outside.{flow}
use Rattle.ocm_base.specs.declared.ghost_bytes.GhostBytes.{GhostBytes}
use Rattle.ocm_server_connections.specs.Sides.{as_page, newest_of, noted_page}
use Rattle.ocm_server_connections.specs.declared.page_notes.PageNotes.{PageNotes}
use Rattle.ocm_net_adapters.specs.Conns.{sides_of}
use Rattle.ocm_net_adapters.proofs.Sending.{all_sent, front_sent}
use Rattle.ocm_net_adapters.proofs.conns.StreamConnConn.send.Goals as goal

pub returns-in-Ok : goal.returns-in-Ok
returns-in-Ok g c =
    let self = c.args.self.now in
    let new = c.write.new.self in
    let w = c.write.ensures in
    let piece = c.args.piece.now in
    let moments = newest_of c.args.pass.now.moments in
    all_sent (sides_of self.heard.received.bytes self.sent.bytes self.notes.pages self.heard.faults self.faults)
    (sides_of new.heard.received.bytes new.sent.bytes c.and-self.result.pages new.heard.faults new.faults)
    (ap (λ (t : GhostBytes). flow None (Some t.bytes)) w.received) (omega (arith, w.read_faults)) w.never_falls piece self.sent.bytes _ refl (sym c.parts.ensures) (as_page moments) tt
    (ap Some c.in-Ok.ensures.ok)
    (ap Some (c.and-self.ensures ∙ ap (λ (n : PageNotes). n.pages ++ noted_page (take c.len.result piece) moments ∷ []) w.notes
    ∙ ap (λ (l : List ℕ). self.notes.pages ++ noted_page l moments ∷ []) (take_all c.len.result piece (omega (arith, c.len.ensures)))))

pub returns-in-Err : goal.returns-in-Err
returns-in-Err g c =
    let self = c.args.self.now in
    let new = c.write.new.self in
    let w = c.write.ensures in
    let piece = c.args.piece.now in
    let moments = newest_of c.args.pass.now.moments in
    front_sent (sides_of self.heard.received.bytes self.sent.bytes self.notes.pages self.heard.faults self.faults)
    (sides_of new.heard.received.bytes new.sent.bytes c.and-self-in-Err.result.pages new.heard.faults new.faults)
    (ap (λ (t : GhostBytes). flow None (Some t.bytes)) w.received) (omega (arith, w.read_faults)) w.never_falls piece self.sent.bytes _ refl (sym c.parts.ensures) (as_page moments) c.in-Err.n
    (ap Some c.in-Err.ensures.err)
    (ap Some (c.and-self-in-Err.ensures ∙ ap (λ (n : PageNotes). n.pages ++ noted_page (take c.in-Err.n piece) moments ∷ []) w.notes))
    c.in-Err.ensures.rose
