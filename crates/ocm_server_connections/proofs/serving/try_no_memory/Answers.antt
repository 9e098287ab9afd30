use Rattle.ocm_server_connections.proofs.Writings.{tried}
use Rattle.ocm_server_connections.proofs.serving.try_no_memory.Goals as goal

pub returns : goal.returns
returns g c = tried (g.C.Conn.sides c.args.conn.now) (g.C.Conn.sides c.send_fixed-tried.new.self) c.send_fixed-tried.result c.send_fixed-tried.ensures
