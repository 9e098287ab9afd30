use Rattle.ocm_chain.specs.Hypotheses.{with_own}
use Rattle.ocm_chain.specs.Reaches.{owns}
use Rattle.ocm_chain.proofs.Hypothesis.{reaches-more}
use Rattle.ocm_chain.proofs.hypotheses.reaches_with.Goals as goal

pub loop-index-preserved : goal.loop-index-preserved
loop-index-preserved c =
    let items = rw c.in_ok-push.was at c.push.ensures.items in
    rw items (reaches-more (with_own (owns c.args.rows.now) c.args.id c.args.rights c.args.closed) c.loop-index.reaches.items c.loop-index.index c.reach_with-reach.result c.loop-index.invariant c.reach_with-reach.ensures)
