use Rattle.std.proofs.Common.{arith}
use Rattle.std.proofs.lemmas.Grind.{common_steps}
use Rattle.ocm_types.proofs.Digits.{unhex-more}
use Rattle.ocm_types.proofs.draws.bytes_of.Goals as goal

pub loop-i-preserved : goal.loop-i-preserved
loop-i-preserved c = record {
  sixteen = grind (arith, common_steps);
  so_far = unhex-more c.args.digits.now c.loop-i.bytes c.loop-i.i _ (omega (arith, c.loop-i.invariant.sixteen)) (omega arith) (grind (arith, common_steps)) c.loop-i.invariant.so_far;
}
