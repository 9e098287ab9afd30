use Rattle.std.proofs.Common.{Some, None, ◌+◌}
use Rattle.ocm_server_connections.specs.Parts.{state, stand}
use Rattle.ocm_server_connections.proofs.Talking.{goes_request, goes_over, goes_fault, served_more, open_after, request_after, if_none, ok_of}
use Rattle.ocm_server_connections.proofs.serving.serve_message.Goals as goal

pub serve_request-requires-clause-request : goal.serve_request-requires-clause-request
serve_request-requires-clause-request g c =
    request_after c.args.reader.now c.next_message.new.reader (g.C.Conn.sides c.args.conn.now) (g.C.Conn.sides c.next_message.new.conn) c.next_message.result c.in-Ok-Some.message c.next_message.ensures
    (ok_of c.next_message.result c.in-Ok-Some.field-0 (Some c.in-Ok-Some.message) c.in-Ok-Some.is c.in-Ok-Some.field-0-is)

pub returns-in-Ok-Some-clause-goes : goal.returns-in-Ok-Some-clause-goes
returns-in-Ok-Some-clause-goes g c =
    goes_request c.args.config.now c.args.node.now.limit c.args.number c.args.reader.now c.next_message.new.reader c.in-Ok-Some.message
    (state (g.C.Conn.sides c.args.conn.now) c.args.draw.now (g.K.Clock.given c.args.clock.now) c.args.pass.now)
    (state (g.C.Conn.sides c.serve_request.new.conn) c.serve_request.new.draw (g.K.Clock.given c.serve_request.new.clock) c.serve_request.new.pass)
    (g.C.Conn.sides c.next_message.new.conn) c.next_message.result c.serve_request.result c.next_message.ensures
    (ok_of c.next_message.result c.in-Ok-Some.field-0 (Some c.in-Ok-Some.message) c.in-Ok-Some.is c.in-Ok-Some.field-0-is) c.serve_request.ensures.served

pub returns-in-Ok-Some-clause-open : goal.returns-in-Ok-Some-clause-open
returns-in-Ok-Some-clause-open g c =
    if_none c.serve_request.result
    (open_after c.args.reader.now c.next_message.new.reader (g.C.Conn.sides c.args.conn.now) (g.C.Conn.sides c.next_message.new.conn) c.next_message.result c.in-Ok-Some.message c.next_message.ensures
    (ok_of c.next_message.result c.in-Ok-Some.field-0 (Some c.in-Ok-Some.message) c.in-Ok-Some.is c.in-Ok-Some.field-0-is))

pub returns-in-Ok-Some-clause-more : goal.returns-in-Ok-Some-clause-more
returns-in-Ok-Some-clause-more g c =
    served_more c.args.config.now c.args.node.now.limit c.args.number c.in-Ok-Some.message
    (state (g.C.Conn.sides c.next_message.new.conn) c.args.draw.now (g.K.Clock.given c.args.clock.now) c.args.pass.now)
    (state (g.C.Conn.sides c.serve_request.new.conn) c.serve_request.new.draw (g.K.Clock.given c.serve_request.new.clock) c.serve_request.new.pass)
    c.serve_request.result c.serve_request.ensures.served

pub returns-in-Ok-None-clause-goes : goal.returns-in-Ok-None-clause-goes
returns-in-Ok-None-clause-goes g c =
    goes_over c.args.config.now c.args.node.now.limit c.args.number (stand (c.args.number + 1) c.next_message.new.reader) c.args.reader.now c.next_message.new.reader
    (state (g.C.Conn.sides c.args.conn.now) c.args.draw.now (g.K.Clock.given c.args.clock.now) c.args.pass.now)
    (g.C.Conn.sides c.next_message.new.conn) c.next_message.result c.next_message.ensures
    (ok_of c.next_message.result c.in-Ok-None.field-0 None c.in-Ok-None.is c.in-Ok-None.field-0-is)

pub returns-in-Err-clause-goes : goal.returns-in-Err-clause-goes
returns-in-Err-clause-goes g c =
    goes_fault c.args.config.now c.args.node.now.limit c.args.number (stand (c.args.number + 1) c.next_message.new.reader) c.args.reader.now c.next_message.new.reader
    (state (g.C.Conn.sides c.args.conn.now) c.args.draw.now (g.K.Clock.given c.args.clock.now) c.args.pass.now)
    (g.C.Conn.sides c.next_message.new.conn) (g.C.Conn.sides c.refuse.new.conn) c.next_message.result c.in-Err.fault c.refuse.result
    c.next_message.ensures c.in-Err.is c.refuse.ensures
