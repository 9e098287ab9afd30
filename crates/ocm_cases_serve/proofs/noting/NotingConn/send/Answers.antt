use Rattle.std.proofs.Common.{refl, sym, subst}
use Rattle.ocm_server_connections.specs.Sides.{Sends, as_page, newest_of, noted_page}
use Rattle.ocm_cases_serve.specs.Notings.{noting}
use Rattle.ocm_cases_serve.proofs.Notings.{sends_page, wrote_of}
use Rattle.ocm_cases_serve.proofs.noting.NotingConn.send.Goals as goal

pub note-requires : goal.note-requires
note-requires g c =
    let moments = newest_of c.args.pass.now.moments in
    let sent = subst (λ (x : g.row.C.Denot). Sends (g.C.Conn.sides x) (g.C.Conn.sides c.send-sent.new.self) c.args.piece.now (as_page moments) c.send-sent.result) (sym c.of-before.ensures) c.send-sent.ensures in
    let w = wrote_of (g.C.Conn.sides c.of-before.result.value) (g.C.Conn.sides c.send-sent.new.self) c.args.piece.now (as_page moments) c.send-sent.result sent in
    (noted_page w.0 moments, (w.0, w.1, refl))

pub returns : goal.returns
returns g c =
    let moments = newest_of c.args.pass.now.moments in
    let n = c.note.ensures in
    subst (λ (x : g.row.C.Denot). Sends (noting (g.C.Conn.sides x) c.args.self.now.notes) (noting (g.C.Conn.sides c.send-sent.new.self) c.note.new.self) c.args.piece.now (as_page moments) c.send-sent.result) c.of-before.ensures
    (sends_page (g.C.Conn.sides c.of-before.result.value) (g.C.Conn.sides c.send-sent.new.self) c.args.piece.now moments c.send-sent.result c.args.self.now.notes c.note.new.self n.0 n.1 n.2)
