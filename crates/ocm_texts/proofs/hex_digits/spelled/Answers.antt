use Rattle.std.proofs.Common.{◌*◌, ◌+◌, arith}
use Rattle.std.proofs.lemmas.Grind.{common_steps}
use Rattle.ocm_texts.proofs.HexLaws.{unhex-more}
use Rattle.ocm_texts.proofs.hex_digits.spelled.Goals as goal

pub loop-i-preserved : goal.loop-i-preserved
loop-i-preserved c =
    rw c.in_ok-push.ensures.items (unhex-more c.args.digits.now c.loop-i.held.items (2 * c.loop-i.i) (2 * (c.loop-i.i + 1)) _ (omega arith) (omega arith) (grind (arith, common_steps)) c.loop-i.invariant)
