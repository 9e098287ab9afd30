use Rattle.std.proofs.Common.{◌≡◌, ◌+◌, Some, arith, rules}
use Rattle.ocm_server_connections.specs.Parts.{state, stand}
use Rattle.ocm_server_connections.proofs.Talking.{start, open_start, went_start, goes_on, goes_end, went_at, talked_none}
use Rattle.ocm_server_connections.proofs.serving.serve_messages.Goals as goal

pub returns-in_default-clause-talk : goal.returns-in_default-clause-talk
returns-in_default-clause-talk g c =
    talked_none c.args.config.now c.args.node.now.limit (state (g.C.Conn.sides c.args.conn.now) c.args.draw.now (g.K.Clock.given c.args.clock.now) c.args.pass.now) (g.C.Conn.sides c.try_no_memory.new.conn) c.try_no_memory.ensures

pub loop-number-init : goal.loop-number-init
loop-number-init g c = record {
  own = c.requires.own;
  open_still = open_start c.in-Ok.reader c.in-Ok.ensures;
  went = went_start c.args.config.now c.args.node.now.limit c.in-Ok.reader (state (g.C.Conn.sides c.args.conn.now) c.args.draw.now (g.K.Clock.given c.args.clock.now) c.args.pass.now) c.in-Ok.ensures;
}

pub loop-number-preserved : goal.loop-number-preserved
loop-number-preserved g c = record {
  own = c.in_default-ended.ensures.own;
  open_still = c.in_default-ended.ensures.open;
  went = goes_on c.args.config.now c.args.node.now.limit start (stand c.loop-number.number c.loop-number.reader) (stand (c.loop-number.number + 1) c.serve_message-ended.new.reader)
      (state (g.C.Conn.sides c.args.conn.now) c.args.draw.now (g.K.Clock.given c.args.clock.now) c.args.pass.now) (state (g.C.Conn.sides c.loop-number.conn) c.loop-number.draw (g.K.Clock.given c.loop-number.clock) c.loop-number.pass) (state (g.C.Conn.sides c.serve_message-ended.new.conn) c.serve_message-ended.new.draw (g.K.Clock.given c.serve_message-ended.new.clock) c.serve_message-ended.new.pass)
      c.serve_message-ended.result c.in_default-ended.is c.loop-number.invariant.went c.serve_message-ended.ensures.goes;
}

pub returns-in-Some-clause-talk : goal.returns-in-Some-clause-talk
returns-in-Some-clause-talk g c =
    goes_end c.args.config.now c.args.node.now.limit (stand c.loop-number.number c.loop-number.reader) (stand (c.loop-number.number + 1) c.serve_message-ended.new.reader)
    (state (g.C.Conn.sides c.args.conn.now) c.args.draw.now (g.K.Clock.given c.args.clock.now) c.args.pass.now) (state (g.C.Conn.sides c.loop-number.conn) c.loop-number.draw (g.K.Clock.given c.loop-number.clock) c.loop-number.pass) (state (g.C.Conn.sides c.serve_message-ended.new.conn) c.serve_message-ended.new.draw (g.K.Clock.given c.serve_message-ended.new.clock) c.serve_message-ended.new.pass)
    c.serve_message-ended.result c.in-Some.ended c.in-Some.is c.loop-number.invariant.went c.serve_message-ended.ensures.goes

pub returns-clause-talk : goal.returns-clause-talk
returns-clause-talk g c =
    let all : c.loop-number.number ≡ 999 = let low = c.loop-number-test.false in let high = c.loop-number.auto.number-end in omega (arith, low, high) in
    let some : c.serve_message-ended-2.result ≡ Some c.unwrap.result = search rules in
    goes_end c.args.config.now c.args.node.now.limit (stand 999 c.loop-number.reader) (stand 1000 c.serve_message-ended-2.new.reader)
    (state (g.C.Conn.sides c.args.conn.now) c.args.draw.now (g.K.Clock.given c.args.clock.now) c.args.pass.now) (state (g.C.Conn.sides c.loop-number.conn) c.loop-number.draw (g.K.Clock.given c.loop-number.clock) c.loop-number.pass) (state (g.C.Conn.sides c.serve_message-ended-2.new.conn) c.serve_message-ended-2.new.draw (g.K.Clock.given c.serve_message-ended-2.new.clock) c.serve_message-ended-2.new.pass)
    c.serve_message-ended-2.result c.unwrap.result some
    (went_at c.args.config.now c.args.node.now.limit start c.loop-number.number 999 c.loop-number.reader (state (g.C.Conn.sides c.args.conn.now) c.args.draw.now (g.K.Clock.given c.args.clock.now) c.args.pass.now) (state (g.C.Conn.sides c.loop-number.conn) c.loop-number.draw (g.K.Clock.given c.loop-number.clock) c.loop-number.pass) all c.loop-number.invariant.went)
    c.serve_message-ended-2.ensures.goes
