use Rattle.std.proofs.Common.{◌≡◌, take, map}
use Rattle.ocm_drill.specs.Federation.{address, four}
use Rattle.ocm_drill.proofs.names.users.Given as goal

abbrev pub invariant-loop-i : goal.invariant-loop-i
invariant-loop-i l = l.users ≡ take l.i (map address four)
