use Rattle.ocm_http.specs.Written.{fixed}
use Rattle.ocm_cases_serve.proofs.Notings.{sends_fixed}
use Rattle.ocm_cases_serve.proofs.noting.NotingConn.send_fixed.Goals as goal

pub returns : goal.returns
returns g c = sends_fixed (g.C.Conn.sides c.args.self.now.conn) (g.C.Conn.sides c.send_fixed.new.self) (fixed c.args.which) c.send_fixed.result c.args.self.now.notes c.send_fixed.ensures
