use Rattle.std.proofs.Common.{arith}
use Rattle.std.proofs.lemmas.Grind.{common_steps}
use Rattle.ocm_base.proofs.Pieces.{rest-from_copied}
use Rattle.ocm_base.proofs.memory_sources.give.Goals as goal

pub returns-clause-copied : goal.returns-clause-copied
returns-clause-copied c =
    rest-from_copied c.args.bytes.now c.copy_from_slice.new.self _ c.args.place c.min-n.result (grind (arith, common_steps)) (grind (arith, common_steps))
