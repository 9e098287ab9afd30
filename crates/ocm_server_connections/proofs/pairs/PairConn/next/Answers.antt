use Rattle.std.proofs.Common.{None, refl, arith}
use Rattle.ocm_base.specs.Outside.{flow}
use Rattle.ocm_server_connections.proofs.Pairing.{gives}
use Rattle.ocm_server_connections.proofs.pairs.PairConn.next.Goals as goal

pub returns : goal.returns
returns g c =
    let n = c.next.ensures in
    gives c.args.reader.now c.next.new.self
    (record { flow = flow (g.S.Source.left c.args.self.now.source) (g.S.Source.received c.args.self.now.source); taken = g.K.Sink.taken c.args.self.now.sink; noted = None; read_faults = g.S.Source.faults c.args.self.now.source; write_faults = g.K.Sink.faults c.args.self.now.sink })
    (record { flow = flow (g.S.Source.left c.next.new.source) (g.S.Source.received c.next.new.source); taken = g.K.Sink.taken c.args.self.now.sink; noted = None; read_faults = g.S.Source.faults c.next.new.source; write_faults = g.K.Sink.faults c.args.self.now.sink })
    c.requires refl refl n.never_falls (omega arith) c.next.result n.message n.over n.fault n.read_fault (n.taken.0, n.taken.1) n.failed n.same_kind n.same_max
