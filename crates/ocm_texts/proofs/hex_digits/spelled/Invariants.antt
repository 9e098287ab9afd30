use Rattle.std.proofs.Common.{◌≡◌, ◌*◌, ◌++◌, drop}
use Rattle.ocm_texts.specs.Hex.{unhex}
use Rattle.ocm_texts.proofs.hex_digits.spelled.Given as goal

-- the pairs so far are spelled, and the rest is still to spell
abbrev pub invariant-loop-i : goal.invariant-loop-i
invariant-loop-i l = l.held.items ++ unhex (drop (2 * l.i) l.digits) ≡ unhex l.digits
