use Rattle.std.proofs.Common.{◌≡◌, drop}
use Rattle.ocm_path.specs.Escapes.{are_escapes}
use Rattle.ocm_path.proofs.escapes.are_escapes.Given as goal

abbrev pub invariant-loop-place : goal.invariant-loop-place
invariant-loop-place l = are_escapes (drop l.place l.piece) ≡ are_escapes l.piece
