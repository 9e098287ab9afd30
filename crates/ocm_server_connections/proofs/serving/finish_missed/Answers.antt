use Rattle.ocm_server_connections.proofs.Writings.{missed_spent, missed_memory}
use Rattle.ocm_server_connections.proofs.serving.finish_missed.Goals as goal

pub returns-in-Spent : goal.returns-in-Spent
returns-in-Spent g c = missed_spent (g.C.Conn.sides c.args.conn.now) c.args.missed c.in-Spent.is

pub returns-in-NoMemory : goal.returns-in-NoMemory
returns-in-NoMemory g c = missed_memory (g.C.Conn.sides c.args.conn.now) (g.C.Conn.sides c.try_no_memory.new.conn) c.args.missed c.in-NoMemory.is c.try_no_memory.ensures
