use Rattle.std.proofs.Common.{rules, ◌≡◌, ◌+◌, ◌-◌, ◌*◌, ◌^◌, ◌<◌, ◌≤◌, get_or}
use Rattle.ocm_http_heads.proofs.Digits.{fits_ten, digit_small}
use Rattle.ocm_http_heads.proofs.lengths.number_of.Goals as goal

pub overflow_mul-number : goal.overflow_mul-number
overflow_mul-number c =
    let fits : 10 * c.loop-digit.number + 9 < 2 ^ 64 = fits_ten c.loop-digit.digit-index _ _ c.loop-digit-test.true c.requires.few c.loop-digit.invariant.below in
    search rules

pub overflow_add-number : goal.overflow_add-number
overflow_add-number c =
    let fits : 10 * c.loop-digit.number + 9 < 2 ^ 64 = fits_ten c.loop-digit.digit-index _ _ c.loop-digit-test.true c.requires.few c.loop-digit.invariant.below in
    let small : get_or c.args.digits.now c.loop-digit.digit-index 0 - 48 ≤ 9 = digit_small _ _ c.loop-digit-test.true c.loop-digit.invariant.rest in
    let digit : c.from.result ≡ get_or c.args.digits.now c.loop-digit.digit-index 0 - 48 = search rules in
    search rules
