use Rattle.std.proofs.Common.{◌≡◌, ◌++◌, ◌*◌, take, drop, length}
use Rattle.ocm_texts.specs.Hex.{unhex}
use Rattle.ocm_types.proofs.draws.bytes_of.Given as goal

abbrev pub invariant-loop-i : goal.invariant-loop-i
invariant-loop-i l = record {
  sixteen : length l.bytes ≡ 16;
  so_far : take l.i l.bytes ++ unhex (drop (2 * l.i) l.digits) ≡ unhex l.digits;
}
