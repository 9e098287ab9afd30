use Rattle.std.proofs.Common.{None, refl, arith}
use Rattle.ocm_base.specs.Outside.{flow}
use Rattle.ocm_http.specs.Written.{fixed}
use Rattle.ocm_server_connections.specs.Sides.{as_fixed}
use Rattle.ocm_server_connections.proofs.Pairing.{sends}
use Rattle.ocm_server_connections.proofs.pairs.PairConn.send_fixed.Goals as goal

pub returns : goal.returns
returns g c =
    let w = c.write_fixed.ensures in
    sends
    (record { flow = flow (g.S.Source.left c.args.self.now.source) (g.S.Source.received c.args.self.now.source); taken = g.K.Sink.taken c.args.self.now.sink; noted = None; read_faults = g.S.Source.faults c.args.self.now.source; write_faults = g.K.Sink.faults c.args.self.now.sink })
    (record { flow = flow (g.S.Source.left c.args.self.now.source) (g.S.Source.received c.args.self.now.source); taken = g.K.Sink.taken c.write_fixed.new.sink; noted = None; read_faults = g.S.Source.faults c.args.self.now.source; write_faults = g.K.Sink.faults c.write_fixed.new.sink })
    (fixed c.args.which) as_fixed c.write_fixed.result refl (omega arith) w.never_falls w.ok w.err w.rose (λ written. refl)
