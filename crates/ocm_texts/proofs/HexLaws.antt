use Rattle.std.proofs.Common.{◌≡◌, ℕ, ◌+◌, ◌*◌, ◌/◌, ◌%◌, ◌<◌, List, [], ◌∷◌, ◌++◌, length, get_or, drop, suc, Bool, not, ◌&&◌, cond, nat_lt, nat_eq, true, false, Some, None, refl, ap, arith, append_assoc, drop-cons}
use Rattle.std.specs.List.{list_all, prefix_len}
use Rattle.std.proofs.lemmas.Bool.Decides.{nat_tests, Decides-eqb}
use Rattle.ocm_texts.specs.Hex.{hex, unhex, hex_digit, hex_value, is_hex_byte, hex_text_of, first_not_hex, AreBytes}

false-not_true : false ≡ true → ⊥
false-not_true h = cc

true-not_false : true ≡ false → ⊥
true-not_false h = cc

-- the parts of a test of two
pub and-left : (a b : Bool) → (a && b) ≡ true → a ≡ true
and-left true b h = refl
and-left false b h = h

pub and-right : (a b : Bool) → (a && b) ≡ true → b ≡ true
and-right true b h = h
and-right false b h = absurd (false-not_true h)

-- one more byte before those that the digits reach
prefix_len-step : (first others : Bool) (n m : ℕ) → (first && others) ≡ false → (others ≡ false → n < m) → cond (not (not first)) (1 + n) 0 < suc m
prefix_len-step true others n m h k = let lt : n < m = k h in omega arith
prefix_len-step false others n m h k = omega arith

-- where a search finds nothing, the tests all pass
from_cases : (all : Bool) (n m : ℕ) → cond (nat_lt n m) (Some n) None ≡ None → (all ≡ false → n < m) → all ≡ true
from_cases true n m h k = refl
from_cases false n m h k = let lt : n < m = k refl in grind (arith, nat_tests)

-- and where it finds a place, they do not
from_cases_some : (all : Bool) (n m place : ℕ) → cond (nat_lt n m) (Some n) None ≡ Some place → (all ≡ true → n ≡ m) → all ≡ false
from_cases_some false n m place h k = refl
from_cases_some true n m place h k = let e : n ≡ m = k refl in grind (arith, nat_tests)

-- a digit is one
pub is_hex_byte-digit : (n : ℕ) → n < 16 → is_hex_byte (hex_digit n) ≡ true
is_hex_byte-digit n h = grind (arith, nat_tests)

-- the value of a number's digit is the number
pub value-digit : (n : ℕ) → n < 16 → hex_value (hex_digit n) ≡ n
value-digit n h = grind (arith, nat_tests)

-- the digit of a digit's value is the digit
pub digit-value : (b : ℕ) → is_hex_byte b ≡ true → hex_digit (hex_value b) ≡ b
digit-value b h = grind (arith, nat_tests)

-- a value is below 16
pub value-small : (b : ℕ) → hex_value b < 16
value-small b = omega arith

-- the text of bytes has digits alone
pub list_all-hex : (bs : List ℕ) → AreBytes bs → list_all is_hex_byte (hex bs) ≡ true
list_all-hex [] h = refl
list_all-hex (b ∷ bs) h =
    let small : b < 256 = h 0 in
    let e1 = is_hex_byte-digit (b / 16) (omega arith) in
    let e2 = is_hex_byte-digit (b % 16) (omega arith) in
    rw (e1, e2) (list_all-hex bs (λ i. h (suc i)))

-- and two for each byte
pub length-hex : (bs : List ℕ) → length (hex bs) ≡ 2 * length bs
length-hex [] = refl
length-hex (b ∷ bs) = omega (arith, length-hex bs)

-- the text of bytes spells the bytes
pub unhex-hex : (bs : List ℕ) → AreBytes bs → unhex (hex bs) ≡ bs
unhex-hex [] h = refl
unhex-hex (b ∷ bs) h =
    let small : b < 256 = h 0 in
    let e1 = value-digit (b / 16) (omega arith) in
    let e2 = value-digit (b % 16) (omega arith) in
    let e : b / 16 * 16 + b % 16 ≡ b = omega arith in
    rw (e1, e2, e, unhex-hex bs (λ i. h (suc i))) refl

-- and is read as them
pub hex_text_of-hex : (bs : List ℕ) → AreBytes bs → hex_text_of (hex bs) ≡ Some bs
hex_text_of-hex bs h =
    let even : length (hex bs) % 2 ≡ 0 = omega (arith, length-hex bs) in
    rw (even, list_all-hex bs h, unhex-hex bs h) refl

-- the text of what digits spell is the digits
pub hex-unhex : (ds : List ℕ) → length ds % 2 ≡ 0 → list_all is_hex_byte ds ≡ true → hex (unhex ds) ≡ ds
hex-unhex [] e h = refl
hex-unhex (a ∷ []) e h = absurd (omega arith)
hex-unhex (a ∷ b ∷ rest) e h =
    let first : is_hex_byte a ≡ true = and-left (is_hex_byte a) (list_all is_hex_byte (b ∷ rest)) h in
    let tail : list_all is_hex_byte (b ∷ rest) ≡ true = and-right (is_hex_byte a) (list_all is_hex_byte (b ∷ rest)) h in
    let second : is_hex_byte b ≡ true = and-left (is_hex_byte b) (list_all is_hex_byte rest) tail in
    let others : list_all is_hex_byte rest ≡ true = and-right (is_hex_byte b) (list_all is_hex_byte rest) tail in
    let even : length rest % 2 ≡ 0 = omega arith in
    let sa = value-small a in
    let sb = value-small b in
    let e1 : (hex_value a * 16 + hex_value b) / 16 ≡ hex_value a = omega arith in
    let e2 : (hex_value a * 16 + hex_value b) % 16 ≡ hex_value b = omega arith in
    rw (e1, e2, digit-value a first, digit-value b second, hex-unhex rest even others) refl

-- how far the digits go: to the end where all are digits, and else not
prefix_len-all : (ds : List ℕ) → list_all is_hex_byte ds ≡ true → prefix_len (λ b. not (not (is_hex_byte b))) ds ≡ length ds
prefix_len-all [] h = refl
prefix_len-all (d ∷ ds) h =
    let e = prefix_len-all ds (and-right (is_hex_byte d) (list_all is_hex_byte ds) h) in
    let f : is_hex_byte d ≡ true = and-left (is_hex_byte d) (list_all is_hex_byte ds) h in
    rw (f, e) (omega arith)

prefix_len-some : (ds : List ℕ) → list_all is_hex_byte ds ≡ false → prefix_len (λ b. not (not (is_hex_byte b))) ds < length ds
prefix_len-some [] h = absurd (true-not_false h)
prefix_len-some (d ∷ ds) h = prefix_len-step (is_hex_byte d) (list_all is_hex_byte ds) (prefix_len (λ b. not (not (is_hex_byte b))) ds) (length ds) h (prefix_len-some ds)

-- no place of another byte: all are digits
pub all_hex-from_none : (ds : List ℕ) → first_not_hex ds ≡ None → list_all is_hex_byte ds ≡ true
all_hex-from_none ds h = from_cases (list_all is_hex_byte ds) (prefix_len (λ b. not (not (is_hex_byte b))) ds) (length ds) h (prefix_len-some ds)

-- a place of another byte: not all are
pub not_all_hex-from_some : (ds : List ℕ) (place : ℕ) → first_not_hex ds ≡ Some place → list_all is_hex_byte ds ≡ false
not_all_hex-from_some ds place h = from_cases_some (list_all is_hex_byte ds) (prefix_len (λ b. not (not (is_hex_byte b))) ds) (length ds) place h (prefix_len-all ds)

-- one more pair is spelled
pub unhex-more : (ds held : List ℕ) (k j n : ℕ) → k + 1 < length ds → j ≡ k + 2 → n ≡ hex_value (get_or ds k 0) * 16 + hex_value (get_or ds (k + 1) 0) → held ++ unhex (drop k ds) ≡ unhex ds → (held ++ n ∷ []) ++ unhex (drop j ds) ≡ unhex ds
unhex-more ds held k j n h e v so_far =
    let lt : k < length ds = omega arith in
    let next : suc k < length ds = omega arith in
    let one : k + 1 ≡ suc k = omega arith in
    let two : j ≡ suc (suc k) = omega arith in
    let first : drop k ds ≡ get_or ds k 0 ∷ drop (suc k) ds = drop-cons ds k 0 lt in
    let second : drop (suc k) ds ≡ get_or ds (suc k) 0 ∷ drop (suc (suc k)) ds = drop-cons ds (suc k) 0 next in
    let pair : unhex (drop k ds) ≡ n ∷ unhex (drop j ds) = rw (v, one, two, first, second) refl in
    let whole : held ++ (n ∷ unhex (drop j ds)) ≡ unhex ds = rw (← pair) so_far in
    rw append_assoc whole

-- a text of digits alone, two for each byte, is read
pub hex_text_of-digits : (text : List ℕ) → length text % 2 ≡ 0 → first_not_hex text ≡ None → hex_text_of text ≡ Some (unhex text)
hex_text_of-digits text e h =
    let all : list_all is_hex_byte text ≡ true = all_hex-from_none text h in
    rw (e, all) refl

-- the text of bytes has no other byte
pub first_not_hex-hex : (text bytes : List ℕ) (place : ℕ) → AreBytes bytes → text ≡ hex bytes → first_not_hex text ≡ Some place → ⊥
first_not_hex-hex text bytes place small e h =
    let not_all : list_all is_hex_byte text ≡ false = not_all_hex-from_some text place h in
    let all : list_all is_hex_byte text ≡ true = rw e (list_all-hex bytes small) in
    cc

-- and an even number of them
pub length-hex-even : (text bytes : List ℕ) → text ≡ hex bytes → length text % 2 ≡ 1 → ⊥
length-hex-even text bytes e h = omega (arith, length-hex bytes, ap length e)

-- what the text of bytes spells is the bytes
pub unhex-text : (text bytes : List ℕ) → AreBytes bytes → text ≡ hex bytes → unhex text ≡ bytes
unhex-text text bytes small e = rw e (unhex-hex bytes small)

-- the parts of a reading that gave a value
from_both : (even all : Bool) (spelled bytes : List ℕ) → cond (even && all) (Some spelled) None ≡ Some bytes → (even ≡ true) × (all ≡ true) × (spelled ≡ bytes)
from_both true true spelled bytes h = (refl, refl, cc)
from_both true false spelled bytes h = cc
from_both false all spelled bytes h = cc

-- a text that spells bytes is their text
pub hex-hex_text_of : (text bytes : List ℕ) → hex_text_of text ≡ Some bytes → hex bytes ≡ text
hex-hex_text_of text bytes h =
    let parts = from_both (nat_eq (length text % 2) 0) (list_all is_hex_byte text) (unhex text) bytes h in
    let even : length text % 2 ≡ 0 = (Decides-eqb (length text % 2) 0).0 parts.0 in
    let e : unhex text ≡ bytes = parts.2 in
    rw (← e) (hex-unhex text even parts.1)
