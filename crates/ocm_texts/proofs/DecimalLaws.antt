use Rattle.std.proofs.Common.{◌≡◌, ℕ, ◌^◌, ◌<◌, ◌↔◌, List, [], ◌∷◌, length, get_or, Bool, true, false, not, ◌&&◌, ◌||◌, cond, nat_lt, nat_le, nat_eq, zero, suc, ◌≤◌, lit<, Some, None, Result, Ok, Err, refl, ap, sym, arith, rules}
use Rattle.std.specs.Result.{OkIff, result_ok}
use Rattle.std.proofs.lemmas.Bool.Decides.{nat_tests}
use Rattle.std.specs.List.{list_all}
use Rattle.std.specs.Fmt.{decimal}
use Rattle.std.specs.Str.Parse.{ParsesUnsigned}
use Rattle.std.proofs.lemmas.Fmt.{decimal_digit, first_decimal, digits_decimal, digits_value-decimal, decimal_nonempty, length-decimal-le, decimal-digits_value}
use Rattle.std.proofs.lemmas.Str.Parse.{IsNumeralModel, numerals_by_fold, parse_digits}
use Rattle.ocm_texts.specs.Decimal.{is_digit_byte, number_after, is_decimal_text, decimal_of}

-- digits and their number, in the words of the standard library
pub numerals : IsNumeralModel (λ ds. list_all is_digit_byte ds ≡ true) (number_after 0)
numerals = numerals_by_fold _ (search rules) number_after (search rules)

-- a test of the size that fails
not_below : (n : ℕ) → ¬ (n < 2 ^ 64) → nat_lt n (2 ^ 64) ≡ false
not_below n h = grind (arith, nat_tests)

-- a number that was read, or not, for its size alone
from_ok : {E : Type 0} (r : Result ℕ E) (form : Bool) (long n : ℕ) → form ≡ true → 0 < long → OkIff r ((0 < long) × (n < 2 ^ 64)) n → result_ok r ≡ cond (form && nat_lt n (2 ^ 64)) (Some n) None
from_ok (Ok x) form long n h some k =
    let fits : n < 2 ^ 64 = k.0.1 in
    let test : nat_lt n (2 ^ 64) ≡ true = grind (arith, nat_tests) in
    rw (h, test, k.1) refl
from_ok (Err e) form long n h some k =
    let test : nat_lt n (2 ^ 64) ≡ false = not_below n (λ fits. k (some, fits)) in
    rw (h, test) refl

-- what the standard library reads of such a text is its number
pub reads : {E : Type 0} (text : List ℕ) (r : Result ℕ E) → is_decimal_text text ≡ true → ParsesUnsigned 64 10 text r → result_ok r ≡ decimal_of text
reads text r h parsed =
    let all : list_all is_digit_byte text ≡ true = grind (arith, nat_tests) in
    let some : 0 < length text = grind (arith, nat_tests) in
    from_ok r (is_decimal_text text) (length text) (number_after 0 text) h some (parse_digits numerals 64 text r parsed all)

-- the parts of a reading that gave a number
from_some : (form fits : Bool) (v n : ℕ) → cond (form && fits) (Some v) None ≡ Some n → (form ≡ true) × (fits ≡ true) × (v ≡ n)
from_some true true v n h = (refl, refl, cc)
from_some true false v n h = cc
from_some false fits v n h = cc

-- the form of a text from its parts
form_of : (all : Bool) (long first : ℕ) → all ≡ true → 0 < long → long ≤ 20 → (2 ≤ long → 48 < first) → (all && (nat_lt 0 long && (nat_le long 20 && (nat_lt long 2 || not (nat_eq first 48))))) ≡ true
form_of all long first h some most lead = grind (arith, nat_tests)

-- and the parts of the form of a text
form_zero : (all : Bool) (long first : ℕ) → (all && (nat_lt 0 long && (nat_le long 20 && (nat_lt long 2 || not (nat_eq first 48))))) ≡ true → (all ≡ true) × (0 < long) × (first ≡ 48 → long ≡ 1)
form_zero all long first h = (grind (arith, nat_tests), grind (arith, nat_tests), λ e. grind (arith, nat_tests))

-- the first digit of a number of two digits or more is no zero
first_digit : (n : ℕ) → n < 2 ^ 64 → 2 ≤ length (decimal n) → 48 < get_or (decimal n) 0 0
first_digit zero h two = let e : decimal 0 ≡ 48 ∷ [] = decimal_digit 0 (lit< tt) in absurd (omega (arith, ap length e))
first_digit (suc n) h two = first_decimal (suc n) (omega arith) h

-- what is printed of a number is read as it
reads_printed : (n : ℕ) → n < 2 ^ 64 → decimal_of (decimal n) ≡ Some n
reads_printed n h =
    let all : list_all is_digit_byte (decimal n) ≡ true = digits_decimal numerals n h in
    let value : number_after 0 (decimal n) ≡ n = digits_value-decimal numerals n h in
    let form : is_decimal_text (decimal n) ≡ true = form_of (list_all is_digit_byte (decimal n)) (length (decimal n)) (get_or (decimal n) 0 0) all (decimal_nonempty n h) (length-decimal-le 20 n (lit< tt) (omega arith) h) (first_digit n h) in
    let test : nat_lt n (2 ^ 64) ≡ true = grind (arith, nat_tests) in
    rw (form, value, test) refl

-- a number that was read is printed as its text
prints_read : (text : List ℕ) (n : ℕ) → decimal_of text ≡ Some n → (n < 2 ^ 64) × (text ≡ decimal n)
prints_read text n h =
    let parts = from_some (is_decimal_text text) (nat_lt (number_after 0 text) (2 ^ 64)) (number_after 0 text) n h in
    let form = form_zero (list_all is_digit_byte text) (length text) (get_or text 0 0) parts.0 in
    let test : nat_lt (number_after 0 text) (2 ^ 64) ≡ true = parts.1 in
    let value : number_after 0 text ≡ n = parts.2 in
    let fits : number_after 0 text < 2 ^ 64 = grind (arith, nat_tests) in
    let e : decimal (number_after 0 text) ≡ text = decimal-digits_value numerals text form.0 form.1 form.2 fits in
    (omega arith, rw (← value) (sym e))

-- the numbers of such texts are those that the standard library prints so
pub printed : (text : List ℕ) (n : ℕ) → (decimal_of text ≡ Some n) ↔ ((n < 2 ^ 64) × (text ≡ decimal n))
printed text n = (prints_read text n, λ h. let e : text ≡ decimal n = h.1 in rw e (reads_printed n h.0))
