use Rattle.std.proofs.Common.{◌≡◌, ◌+◌, drop}
use Rattle.ocm_http_heads.specs.Endings as endings
use Rattle.ocm_http_heads.proofs.endings.blanks.Given as goal

abbrev pub invariant-loop-i : goal.invariant-loop-i
invariant-loop-i l = l.i + endings.blanks (drop l.i l.bytes) ≡ endings.blanks l.bytes
