use Rattle.std.proofs.Common.{◌≡◌, arith}
use Rattle.std.proofs.lemmas.Grind.{common_steps}
use Rattle.ocm_texts.specs.Hex.{hex}
use Rattle.ocm_texts.proofs.HexLaws.{list_all-hex, length-hex, hex_text_of-hex}
use Rattle.ocm_texts.proofs.hex_digits.hex_of.Goals as goal

pub returns-clause-digits : goal.returns-clause-digits
returns-clause-digits c =
    let e : c.from_string.result ≡ hex c.args.s.now = grind (arith, common_steps) in
    rw e (list_all-hex c.args.s.now (λ i. omega (arith, c.type_inv.s i)))

pub returns-clause-two_each : goal.returns-clause-two_each
returns-clause-two_each c =
    let e : c.from_string.result ≡ hex c.args.s.now = grind (arith, common_steps) in
    rw e (length-hex c.args.s.now)

pub returns-clause-reads_back : goal.returns-clause-reads_back
returns-clause-reads_back c =
    let e : c.from_string.result ≡ hex c.args.s.now = grind (arith, common_steps) in
    rw e (hex_text_of-hex c.args.s.now (λ i. omega (arith, c.type_inv.s i)))
