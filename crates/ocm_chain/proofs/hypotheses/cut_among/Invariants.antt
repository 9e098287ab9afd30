use Rattle.std.proofs.Common.{◌≡◌}
use Rattle.std.specs.Prelude.{filter}
use Rattle.std.specs.List.{range_with_len}
use Rattle.ocm_chain.specs.Hypotheses.{is_cut_among, reaches_of}
use Rattle.ocm_chain.proofs.hypotheses.cut_among.Given as goal

abbrev pub invariant-loop-index : goal.invariant-loop-index
invariant-loop-index l = l.numbers.items ≡ filter (is_cut_among l.moment (reaches_of l.rows) l.after) (range_with_len 1 l.index)
