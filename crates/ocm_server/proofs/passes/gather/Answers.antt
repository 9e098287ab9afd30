use Rattle.std.proofs.Common.{◌∙◌, ap, get_or, None, arith}
use Rattle.ocm_turn.proofs.MoveLemmas.{ground_then}
use Rattle.ocm_server.specs.Objects.{drawn_of, mine_of, parts_of, past_of}
use Rattle.ocm_server.specs.declared.workers.Worker.{Worker}
use Rattle.ocm_server.proofs.Dealing.{changed_more, drawn_more, gathered_more, knows_more}
use Rattle.ocm_server.proofs.passes.gather.Goals as goal

pub loop-k-preserved : goal.loop-k-preserved
loop-k-preserved g c = record {
  own = c.gather_one.ensures.own;
  ground = ground_then c.args.pass.now c.loop-k.pass c.gather_one.new.pass c.loop-k.invariant.ground c.gather_one.ensures.ground;
  taken = changed_more {W = Worker g.row.T.Denot g.row.L.Denot g.row.N.Denot g.row.K.Denot g.row.T-Work.Denot g.row.T-Mark.Denot g.row.T-Terms.Denot g.row.L-Conn.Denot} (λ i w. record w { pass = None }) c.args.workers.now c.loop-k.workers c.loop-k.k (get_or c.loop-k.workers c.loop-k.k c.index-workers-k.result) c.gather_one.new.worker
      c.loop-k.invariant.taken (omega arith) (ap (λ d. get_or c.loop-k.workers c.loop-k.k d) c.index-workers-k.is) c.gather_one.ensures.worker;
  mine = gathered_more {W = Worker g.row.T.Denot g.row.L.Denot g.row.N.Denot g.row.K.Denot g.row.T-Work.Denot g.row.T-Mark.Denot g.row.T-Terms.Denot g.row.L-Conn.Denot} (λ w. mine_of w.pass) c.args.workers.now c.loop-k.workers c.loop-k.k (get_or c.loop-k.workers c.loop-k.k c.index-workers-k.result) c.loop-k.pass.mine c.gather_one.new.pass.mine
      (omega arith) (λ d. c.loop-k.invariant.taken.rest c.loop-k.k d (omega arith)) (omega arith) (ap (λ d. get_or c.loop-k.workers c.loop-k.k d) c.index-workers-k.is) c.gather_one.ensures.mine
      ∙ c.loop-k.invariant.mine;
  parts =
      let before = c.loop-k.invariant.parts in
      let more = c.gather_one.ensures.parts in
      let one = ap (λ (w : Worker g.row.T.Denot g.row.L.Denot g.row.N.Denot g.row.K.Denot g.row.T-Work.Denot g.row.T-Mark.Denot g.row.T-Terms.Denot g.row.L-Conn.Denot). parts_of w.pass) (c.loop-k.invariant.taken.rest c.loop-k.k c.index-workers-k.result (omega arith)) ∙ c.requires.one c.loop-k.k c.index-workers-k.result (omega arith) in
      omega (arith, before, more, one);
  drawn = drawn_more {W = Worker g.row.T.Denot g.row.L.Denot g.row.N.Denot g.row.K.Denot g.row.T-Work.Denot g.row.T-Mark.Denot g.row.T-Terms.Denot g.row.L-Conn.Denot} (λ w. drawn_of w.pass) c.args.workers.now c.loop-k.workers c.loop-k.k (get_or c.loop-k.workers c.loop-k.k c.index-workers-k.result) c.loop-k.pass.drawn c.gather_one.new.pass.drawn
      c.loop-k.invariant.drawn (omega arith) (λ d. c.loop-k.invariant.taken.rest c.loop-k.k d (omega arith)) (ap (λ d. get_or c.loop-k.workers c.loop-k.k d) c.index-workers-k.is) c.gather_one.ensures.drawn;
  knows = knows_more {W = Worker g.row.T.Denot g.row.L.Denot g.row.N.Denot g.row.K.Denot g.row.T-Work.Denot g.row.T-Mark.Denot g.row.T-Terms.Denot g.row.L-Conn.Denot} (λ w. w.pass) c.args.workers.now c.loop-k.workers c.loop-k.k (get_or c.loop-k.workers c.loop-k.k c.index-workers-k.result) (past_of c.loop-k.pass) (past_of c.gather_one.new.pass)
      c.loop-k.invariant.knows (omega arith) (λ d. c.loop-k.invariant.taken.rest c.loop-k.k d (omega arith)) (ap (λ d. get_or c.loop-k.workers c.loop-k.k d) c.index-workers-k.is) c.gather_one.ensures.older c.gather_one.ensures.knows;
}
