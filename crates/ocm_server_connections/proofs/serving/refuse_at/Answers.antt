use Rattle.ocm_server_connections.proofs.Writings.{refused_at, broke_at}
use Rattle.ocm_server_connections.proofs.serving.refuse_at.Goals as goal

pub returns-in-Ok : goal.returns-in-Ok
returns-in-Ok g c = refused_at (g.C.Conn.sides c.args.conn.now) (g.C.Conn.sides c.send_fixed.new.self) c.args.place _ c.in-Ok.ensures

pub returns-in-Err : goal.returns-in-Err
returns-in-Err g c = broke_at (g.C.Conn.sides c.args.conn.now) (g.C.Conn.sides c.send_fixed.new.self) c.args.place _ c.in-Err.ensures
