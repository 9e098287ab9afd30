use Rattle.std.proofs.Common.{arith}
use Rattle.ocm_disk.proofs.Marking.{ruined_by_places}
use Rattle.ocm_disk.proofs.marks.ruin.Goals as goal

pub returns : goal.returns
returns c = ruined_by_places c.args.words.now c.args.bytes.now c.loop-place.bytes (omega arith) (λ k h. c.loop-place.invariant.ruined k (omega arith))
