use Rattle.std.proofs.Common.{◌≡◌, map}
use Rattle.std.specs.Prelude.{filter}
use Rattle.std.specs.List.{range_with_len}
use Rattle.ocm_chain.specs.Hypotheses.{change_among, is_told_among, reaches_of}
use Rattle.ocm_chain.proofs.hypotheses.changes_among.Given as goal

abbrev pub invariant-loop-index : goal.invariant-loop-index
invariant-loop-index l = l.changes.items ≡ map (change_among l.after) (filter (is_told_among l.moment (reaches_of l.rows) l.after) (range_with_len 1 l.index))
