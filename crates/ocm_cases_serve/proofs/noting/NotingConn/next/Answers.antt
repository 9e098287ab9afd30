use Rattle.ocm_cases_serve.proofs.Notings.{gives_noting}
use Rattle.ocm_cases_serve.proofs.noting.NotingConn.next.Goals as goal

pub returns : goal.returns
returns g c = gives_noting (g.C.Conn.sides c.args.self.now.conn) (g.C.Conn.sides c.next.new.self) c.args.self.now.notes c.args.reader.now c.next.new.reader c.next.result c.next.ensures
