use Rattle.std.proofs.Common.{arith, sym, ◌∙◌}
use Rattle.ocm_path.proofs.TextRead.{is_path-if_segments}
use Rattle.ocm_path.proofs.paths.Path.of_below.Goals as goal

pub invariant_of-result : goal.invariant_of-result
invariant_of-result c = is_path-if_segments c.args.below.now c.in-Some.segments (omega (arith, c.if-below-ge-MOST_ASKED_PATH_BYTES.false)) (sym c.in-Some.is ∙ c.in_ok-segments.ensures)
