use Rattle.std.proofs.Common.{◌≡◌, take}
use Rattle.ocm_rules.specs.Files.{copies}
use Rattle.ocm_tree.specs.Tables.{somes}
use Rattle.ocm_tree.proofs.carries.plan_copies.Given as goal

abbrev pub invariant-loop-slot : goal.invariant-loop-slot
invariant-loop-slot l = l.planned.items ≡ copies l.from l.to (somes (take l.slot-index l.slots))
