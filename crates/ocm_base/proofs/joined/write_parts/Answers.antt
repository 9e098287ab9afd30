use Rattle.std.proofs.Common.{◌++◌, arith, rules}
use Rattle.std.proofs.lemmas.Grind.{common_steps}
use Rattle.ocm_base.proofs.Pieces.{Appends-more}
use Rattle.ocm_base.proofs.joined.write_parts.Goals as goal

pub loop-done-preserved : goal.loop-done-preserved
loop-done-preserved g c = record {
  within = grind (arith, common_steps, c.behind.ensures, c.in_ok-done.ensures.within);
  so_far = Appends-more _ _ _ (c.args.first.now ++ c.args.second.now) _ c.loop-done.done c.in_ok-done.field-0 c.behind.ensures c.loop-done.invariant.so_far c.in_ok-done.ensures.ok;
  never_falls = search rules;
}
