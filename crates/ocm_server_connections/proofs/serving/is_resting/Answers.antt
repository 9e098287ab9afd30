use Rattle.ocm_server_connections.proofs.Talking.{nothing_held, gives_none}
use Rattle.ocm_server_connections.proofs.serving.is_resting.Goals as goal

pub returns-clause-over : goal.returns-clause-over
returns-clause-over g c = λ h.
    gives_none c.args.reader.now (g.C.Conn.sides c.args.conn.now) (g.C.Conn.sides c.rests.new.self) c.rests.ensures.same (λ _. c.rests.ensures.told h)
    (nothing_held c.args.reader.now.gone c.args.reader.now.held c.held.result c.held.ensures c.if-held-ne0.false)
