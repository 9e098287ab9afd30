use Rattle.std.proofs.Common.{◌≡◌, take}
use Rattle.std.specs.Prelude.{map}
use Rattle.ocm_plan_local.specs.Told.{new_perms}
use Rattle.ocm_plan_local.proofs.shares.all_new_perms.Given as goal

abbrev pub invariant-loop-one : goal.invariant-loop-one
invariant-loop-one l = l.all.items ≡ map new_perms (take l.one-index l.changed)
