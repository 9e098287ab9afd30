use Rattle.std.proofs.Common.{◌≡◌, ◌-◌, ◌≤◌, length, drop}
use Rattle.ocm_http_heads.specs.Endings as endings
use Rattle.ocm_http_heads.proofs.endings.Look.look.Given as goal

-- what is found in the rest is found in the whole
abbrev pub invariant-loop-i : goal.invariant-loop-i
invariant-loop-i l = record {
  found : endings.further l.i (endings.found l.here (drop l.i l.piece)) ≡ endings.found l.self l.piece;
  moved : endings.moved l.here (drop l.i l.piece) ≡ endings.moved l.self l.piece;
  within : l.i ≤ length l.piece;
}

abbrev pub decreases-loop-i : goal.decreases-loop-i
decreases-loop-i l = length l.piece - l.i
