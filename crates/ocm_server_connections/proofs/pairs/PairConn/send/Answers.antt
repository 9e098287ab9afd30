use Rattle.std.proofs.Common.{None, refl, arith}
use Rattle.ocm_base.specs.Outside.{flow}
use Rattle.ocm_server_connections.specs.Sides.{as_page, newest_of}
use Rattle.ocm_server_connections.proofs.Pairing.{sends}
use Rattle.ocm_server_connections.proofs.pairs.PairConn.send.Goals as goal

pub returns : goal.returns
returns g c =
    let w = c.write_to.ensures in
    sends
    (record { flow = flow (g.S.Source.left c.args.self.now.source) (g.S.Source.received c.args.self.now.source); taken = g.K.Sink.taken c.args.self.now.sink; noted = None; read_faults = g.S.Source.faults c.args.self.now.source; write_faults = g.K.Sink.faults c.args.self.now.sink })
    (record { flow = flow (g.S.Source.left c.args.self.now.source) (g.S.Source.received c.args.self.now.source); taken = g.K.Sink.taken c.write_to.new.sink; noted = None; read_faults = g.S.Source.faults c.args.self.now.source; write_faults = g.K.Sink.faults c.write_to.new.sink })
    c.args.piece.now (as_page (newest_of c.args._pass.now.moments)) c.write_to.result refl (omega arith) w.never_falls w.ok w.err w.rose (λ written. refl)
