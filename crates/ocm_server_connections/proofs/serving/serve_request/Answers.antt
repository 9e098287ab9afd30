use Rattle.ocm_server_connections.specs.Parts.{state}
use Rattle.ocm_server_connections.proofs.Talking.{serves_request, requested}
use Rattle.ocm_server_connections.proofs.serving.serve_request.Goals as goal

pub answer-answered-requires-clause-request : goal.answer-answered-requires-clause-request
answer-answered-requires-clause-request g c = requested c.args.number c.args.message c.counted-message.result c.counted-message.ensures c.requires.request

pub returns-clause-served : goal.returns-clause-served
returns-clause-served g c =
    serves_request c.args.config.now c.args.node.now.limit c.args.number c.args.message c.counted-message.result
    (state (g.C.Conn.sides c.args.conn.now) c.args.draw.now (g.K.Clock.given c.args.clock.now) c.args.pass.now)
    (state (g.C.Conn.sides c.finish.new.conn) c.next-fresh.new.self (g.K.Clock.given c.now-now.new.self) c.answer-answered.new.pass)
    c.next-fresh.result c.now-now.result c.answer-answered.result c.ending_after-after.result c.finish.result
    c.ending_after-after.ensures c.counted-message.ensures c.next-fresh.ensures.value c.next-fresh.ensures.place c.now-now.ensures
    c.answer-answered.ensures.answers c.answer-answered.ensures.spent c.answer-answered.ensures.unspent
    (record { stand = c.calls-calls.ensures.stand.0; order = c.calls-calls.ensures.stand.1; paired = c.calls-calls.ensures.paired }) c.finish.ensures
