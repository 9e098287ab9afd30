use Rattle.std.proofs.Common.{◌≡◌}
use Rattle.ocm_chain.specs.Reaches.{AreRight, AreRightFrom, marks_of, owns}
use Rattle.ocm_chain.proofs.settling.settle.Given as goal

abbrev pub invariant-loop-index : goal.invariant-loop-index
invariant-loop-index l = record {
  owns : owns l.rows ≡ owns l.initial.rows;
  marks : marks_of l.rows ≡ marks_of l.initial.rows;
  right : AreRight l.rows l.index;
  behind : AreRightFrom l.rows l.to;
}
