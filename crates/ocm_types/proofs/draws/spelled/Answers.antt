use Rattle.std.proofs.Common.{◌≡◌, length, arith, ap, ◌∙◌}
use Rattle.ocm_types.specs.Draws.{fresh_of}
use Rattle.ocm_types.proofs.Digits.{is_secret-digits, fresh_of-digits}
use Rattle.ocm_types.proofs.draws.spelled.Goals as goal

pub of_text-requires : goal.of_text-requires
of_text-requires c =
    let n : length c.in_ok-digits.digits ≡ 32 = omega (arith, c.in_ok-digits.ensures.two_each) in
    is_secret-digits c.in_ok-digits.digits c.in_ok-digits.ensures.digits n

pub returns-clause-read_back : goal.returns-clause-read_back
returns-clause-read_back c =
    let n : length c.in_ok-digits.digits ≡ 32 = omega (arith, c.in_ok-digits.ensures.two_each) in
    ap fresh_of c.of_text.ensures ∙ fresh_of-digits c.in_ok-digits.digits c.args.bytes.now c.in_ok-digits.ensures.text c.in_ok-digits.ensures.digits n (λ i. omega (arith, c.type_inv.bytes i))
