-- A number that is read from its digits.
use Rattle.std.proofs.Common.{◌≡◌, ℕ, ◌+◌, ◌-◌, ◌*◌, ◌^◌, ◌<◌, ◌≤◌, List, length, get_or, drop, true, ◌&&◌, sym, ap, ◌∙◌, arith}
use Rattle.std.specs.Char.{is_ascii_digit}
use Rattle.std.specs.List.{list_all}
use Rattle.std.proofs.lemmas.List.{drop_more}
use Rattle.std.proofs.lemmas.Bool.Decides.{nat_tests}
use Rattle.std.proofs.Math.Nat.{pow-le-pow_right}

-- below a power of ten there is room in a u64 for one digit more
pub fits_ten : (i n count : ℕ) → i < count → count ≤ 19 → n < 10 ^ i → 10 * n + 9 < 2 ^ 64
fits_ten i n count l few h =
    let small : i ≤ 18 = omega arith in
    let power : 10 ^ i ≤ 10 ^ 18 = pow-le-pow_right {n = 10} (omega arith) {i = i} {j = 18} small in
    omega arith

-- a digit is at most 9
pub digit_small : (digits : List ℕ) (i : ℕ) → i < length digits → list_all is_ascii_digit (drop i digits) ≡ true → get_or digits i 0 - 48 ≤ 9
digit_small digits i l h =
    let first : is_ascii_digit (get_or digits i 0) && list_all is_ascii_digit (drop (i + 1) digits) ≡ true = sym (ap (list_all is_ascii_digit) (drop_more digits i 0 l)) ∙ h in
    grind (arith, nat_tests)
