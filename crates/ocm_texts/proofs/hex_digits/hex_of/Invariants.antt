use Rattle.std.proofs.Common.{◌≡◌, take}
use Rattle.std.specs.String.{string_bytes}
use Rattle.ocm_texts.specs.Hex.{hex}
use Rattle.ocm_texts.proofs.hex_digits.hex_of.Given as goal

abbrev pub invariant-loop-b : goal.invariant-loop-b
invariant-loop-b l = string_bytes l.held ≡ hex (take l.b-index l.s)
