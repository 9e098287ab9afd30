use Rattle.std.proofs.Common.{◌≡◌, ◌%◌, None, Some, length, sym, refl, ◌∙◌, rules, arith}
use Rattle.std.proofs.lemmas.Grind.{common_steps}
use Rattle.ocm_texts.specs.Hex.{unhex, hex_text_of, first_not_hex}
use Rattle.ocm_texts.proofs.HexLaws.{hex_text_of-digits, first_not_hex-hex, length-hex-even, unhex-text, hex-unhex, all_hex-from_none}
use Rattle.ocm_texts.proofs.hex_digits.hex_read.Goals as goal

pub returns-then-digits-eq1-clause-of_bytes : goal.returns-then-digits-eq1-clause-of_bytes
returns-then-digits-eq1-clause-of_bytes c = λ bytes small e. absurd (length-hex-even c.args.s.now bytes e (search rules))

pub returns-in-Some-clause-of_bytes : goal.returns-in-Some-clause-of_bytes
returns-in-Some-clause-of_bytes c = λ bytes small e. absurd (first_not_hex-hex c.args.s.now bytes c.in-Some.place small e (search rules))

pub returns-in-Ok-clause-ok : goal.returns-in-Ok-clause-ok
returns-in-Ok-clause-ok c =
    let even : length c.args.s.now % 2 ≡ 0 = grind (arith, common_steps) in
    let none : first_not_hex c.args.s.now ≡ None = search rules in
    let e : c.in-Ok.bytes ≡ unhex c.args.s.now = search rules in
    rw e (hex_text_of-digits c.args.s.now even none)

pub returns-in-Ok-clause-text : goal.returns-in-Ok-clause-text
returns-in-Ok-clause-text c =
    let even : length c.args.s.now % 2 ≡ 0 = grind (arith, common_steps) in
    let none : first_not_hex c.args.s.now ≡ None = search rules in
    let e : c.in-Ok.bytes ≡ unhex c.args.s.now = search rules in
    rw e (sym (hex-unhex c.args.s.now even (all_hex-from_none c.args.s.now none)))

pub returns-in-Ok-clause-of_bytes : goal.returns-in-Ok-clause-of_bytes
returns-in-Ok-clause-of_bytes c =
    λ bytes small s. let e : c.in-Ok.bytes ≡ unhex c.args.s.now = search rules in e ∙ unhex-text c.args.s.now bytes small s

pub returns-in-Err-clause-memory : goal.returns-in-Err-clause-memory
returns-in-Err-clause-memory c =
    let even : length c.args.s.now % 2 ≡ 0 = grind (arith, common_steps) in
    let none : first_not_hex c.args.s.now ≡ None = search rules in
    let e : hex_text_of c.args.s.now ≡ Some (unhex c.args.s.now) = hex_text_of-digits c.args.s.now even none in
    λ _. rw e refl
