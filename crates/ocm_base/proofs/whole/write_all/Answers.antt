use Rattle.std.proofs.Common.{arith, rules}
use Rattle.std.proofs.lemmas.Grind.{common_steps}
use Rattle.ocm_base.proofs.Pieces.{Appends-more}
use Rattle.ocm_base.proofs.whole.write_all.Goals as goal

pub loop-done-preserved : goal.loop-done-preserved
loop-done-preserved g c = record {
  within = search rules;
  so_far = Appends-more _ _ _ c.args.piece.now _ c.loop-done.done c.in_ok-done.field-0 (grind (arith, common_steps)) c.loop-done.invariant.so_far c.in_ok-done.ensures.ok;
  untouched = λ none. absurd (omega (arith, c.in_ok-done.ensures.some));
  never_falls = search rules;
}
