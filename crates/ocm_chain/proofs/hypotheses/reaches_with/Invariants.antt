use Rattle.ocm_chain.specs.Hypotheses.{AreReaches, with_own}
use Rattle.ocm_chain.specs.Reaches.{owns}
use Rattle.ocm_chain.proofs.hypotheses.reaches_with.Given as goal

abbrev pub invariant-loop-index : goal.invariant-loop-index
invariant-loop-index l = AreReaches (with_own (owns l.rows) l.id l.rights l.closed) l.reaches.items l.index
