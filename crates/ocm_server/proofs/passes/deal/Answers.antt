use Rattle.std.proofs.Common.{◌∙◌, ap, get_or, Some, arith}
use Rattle.ocm_turn.specs.Passes.{Known}
use Rattle.ocm_server.specs.Objects.{beginner, draw_at}
use Rattle.ocm_server.specs.declared.workers.Worker.{Worker}
use Rattle.ocm_server.proofs.Dealing.{changed_more, fewer_parts}
use Rattle.ocm_server.proofs.passes.deal.Goals as goal

pub loop-k-preserved : goal.loop-k-preserved
loop-k-preserved g c =
    let fewer = ap (λ (p : Known g.row.T-Terms.Denot). p.parts) c.deal_one.ensures.same in
    let all = c.loop-k.invariant.parts in
    record {
      own = ap (λ (p : Known g.row.T-Terms.Denot). p.turnstile) c.deal_one.ensures.same ∙ c.loop-k.invariant.own;
      same = fewer_parts c.args.pass.now c.loop-k.pass c.deal_one.new.pass c.loop-k.invariant.same c.deal_one.ensures.same;
      parts = omega (arith, fewer, all);
      dealt = changed_more {W = Worker g.row.T.Denot g.row.L.Denot g.row.N.Denot g.row.K.Denot g.row.T-Work.Denot g.row.T-Mark.Denot g.row.T-Terms.Denot g.row.L-Conn.Denot} (λ i w. record w { draw = draw_at c.args.draw_key i; pass = Some (beginner c.args.pass.now) }) c.args.workers.now c.loop-k.workers c.loop-k.k (get_or c.loop-k.workers c.loop-k.k c.index-workers-k.result) c.deal_one.new.worker
          c.loop-k.invariant.dealt (omega arith) (ap (λ d. get_or c.loop-k.workers c.loop-k.k d) c.index-workers-k.is)
          (c.deal_one.ensures.worker ∙ (λ i. record (get_or c.loop-k.workers c.loop-k.k c.index-workers-k.result) { draw = c.new.ensures i; pass = Some (beginner (c.loop-k.invariant.same i)) }));
    }
