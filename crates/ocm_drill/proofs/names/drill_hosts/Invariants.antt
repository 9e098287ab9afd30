use Rattle.std.proofs.Common.{◌≡◌, take, map}
use Rattle.ocm_drill.specs.Federation.{four, host}
use Rattle.ocm_drill.proofs.names.drill_hosts.Given as goal

abbrev pub invariant-loop-i : goal.invariant-loop-i
invariant-loop-i l = l.hosts ≡ take l.i (map host four)
