use Rattle.std.proofs.Common.{◌≡◌, take, map}
use Rattle.ocm_drill.specs.Federation.{four, key}
use Rattle.ocm_drill.proofs.names.keys.Given as goal

abbrev pub invariant-loop-i : goal.invariant-loop-i
invariant-loop-i l = l.keys ≡ take l.i (map key four)
