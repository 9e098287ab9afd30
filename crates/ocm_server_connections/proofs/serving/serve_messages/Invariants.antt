use Rattle.ocm_turn.specs.Passes.{BelongsTo}
use Rattle.ocm_server_connections.specs.Sides.{IsOpen}
use Rattle.ocm_server_connections.specs.Parts.{Went, state, stand}
use Rattle.ocm_server_connections.proofs.Talking.{start}
use Rattle.ocm_server_connections.proofs.serving.serve_messages.Given as goal

-- the messages so far were answered
abbrev pub invariant-loop-number : goal.invariant-loop-number
invariant-loop-number g l = record {
  own : BelongsTo l.node l.pass;
  open_still : IsOpen l.reader;
  went : Went l.config l.node.limit start (stand l.number l.reader)
      (state (g.C.Conn.sides l.fn.conn) l.fn.draw (g.K.Clock.given l.fn.clock) l.fn.pass)
      (state (g.C.Conn.sides l.conn) l.draw (g.K.Clock.given l.clock) l.pass);
}
