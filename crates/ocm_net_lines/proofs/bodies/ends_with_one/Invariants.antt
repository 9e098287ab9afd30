use Rattle.std.proofs.Common.{◌≡◌, drop}
use Rattle.ocm_net_lines.specs.Bodies as bodies
use Rattle.ocm_net_lines.proofs.bodies.ends_with_one.Given as goal

abbrev pub invariant-loop-byte : goal.invariant-loop-byte
invariant-loop-byte l = bodies.ends_with_one 0 l.text ≡ bodies.ends_with_one l.last (drop l.byte-index l.text)
