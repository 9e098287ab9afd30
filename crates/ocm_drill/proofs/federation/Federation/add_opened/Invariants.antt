use Rattle.std.proofs.Common.{◌≡◌, ◌++◌, take, map}
use Rattle.ocm_drill.specs.Federation.{four}
use Rattle.ocm_drill.specs.Script.{opened}
use Rattle.ocm_drill.proofs.federation.Federation.add_opened.Given as goal

abbrev pub invariant-loop-i : goal.invariant-loop-i
invariant-loop-i l = l.events ≡ l.initial.events ++ take l.i (map (opened l.kind) four)
