use Rattle.ocm_server_connections.specs.Parts.{state}
use Rattle.ocm_server_connections.proofs.Causes.{read_cause, write_cause, spent_cause, unspent_cause}
use Rattle.ocm_server_connections.proofs.serving.serve_conn.Goals as goal

pub returns-clause-read_fault : goal.returns-clause-read_fault
returns-clause-read_fault g c = read_cause c.args.config.now c.args.node.now.limit (state (g.C.Conn.sides c.args.conn.now) c.args.draw.now (g.K.Clock.given c.args.clock.now) c.args.pass.now) (state (g.C.Conn.sides c.serve_messages.new.conn) c.serve_messages.new.draw (g.K.Clock.given c.serve_messages.new.clock) c.serve_messages.new.pass) c.serve_messages.result c.serve_messages.ensures.talk

pub returns-clause-write_fault : goal.returns-clause-write_fault
returns-clause-write_fault g c = write_cause c.args.config.now c.args.node.now.limit (state (g.C.Conn.sides c.args.conn.now) c.args.draw.now (g.K.Clock.given c.args.clock.now) c.args.pass.now) (state (g.C.Conn.sides c.serve_messages.new.conn) c.serve_messages.new.draw (g.K.Clock.given c.serve_messages.new.clock) c.serve_messages.new.pass) c.serve_messages.result c.serve_messages.ensures.talk

pub returns-clause-spent : goal.returns-clause-spent
returns-clause-spent g c = spent_cause c.args.config.now c.args.node.now.limit (state (g.C.Conn.sides c.args.conn.now) c.args.draw.now (g.K.Clock.given c.args.clock.now) c.args.pass.now) (state (g.C.Conn.sides c.serve_messages.new.conn) c.serve_messages.new.draw (g.K.Clock.given c.serve_messages.new.clock) c.serve_messages.new.pass) c.serve_messages.result c.serve_messages.ensures.talk

pub returns-clause-unspent : goal.returns-clause-unspent
returns-clause-unspent g c = unspent_cause c.args.config.now c.args.node.now.limit (state (g.C.Conn.sides c.args.conn.now) c.args.draw.now (g.K.Clock.given c.args.clock.now) c.args.pass.now) (state (g.C.Conn.sides c.serve_messages.new.conn) c.serve_messages.new.draw (g.K.Clock.given c.serve_messages.new.clock) c.serve_messages.new.pass) c.serve_messages.result c.serve_messages.ensures.talk
