use Rattle.std.proofs.Common.{◌/◌, ◌%◌, true, Some, IsTrue, ◌≡◌, ℕ, ◌+◌, ◌*◌, ◌<◌, List, [], ◌∷◌, ◌++◌, length, get_or, take, drop, refl, ap, ◌∙◌, suc, append_assoc, arith, slice_set}
use Rattle.std.proofs.Math.Seq.{drop-cons}
use Rattle.std.proofs.lemmas.List.{take_more_set}
use Rattle.std.specs.List.{list_all}
use Rattle.std.proofs.lemmas.Bool.{and_parts}
use Rattle.std.proofs.lemmas.Bool.Decides.{nat_tests}
use Rattle.ocm_texts.specs.Hex.{hex, hex_digit, hex_value, is_hex_byte, unhex}
use Rattle.ocm_types.specs.Draws.{fresh_of}
use Rattle.ocm_types.specs.Texts.{is_allowed, is_secret}

-- one more byte is spelled by two more digits
unhex-cons : (s : List ℕ) (i : ℕ) → suc i < length s → unhex (drop i s) ≡ (hex_value (get_or s i 0) * 16 + hex_value (get_or s (suc i) 0)) ∷ unhex (drop (suc (suc i)) s)
unhex-cons s i h =
    let h0 : i < length s = omega arith in
    rw (drop-cons s i 0 h0, drop-cons s (suc i) 0 h) refl

pub unhex-more : (s bytes : List ℕ) (i v : ℕ) → i < length bytes → 2 * i + 1 < length s → v ≡ hex_value (get_or s (2 * i) 0) * 16 + hex_value (get_or s (2 * i + 1) 0) → take i bytes ++ unhex (drop (2 * i) s) ≡ unhex s → take (i + 1) (slice_set bytes i v) ++ unhex (drop (2 * (i + 1)) s) ≡ unhex s
unhex-more s bytes i v h k e was =
    let two : 2 * (i + 1) ≡ suc (suc (2 * i)) = omega arith in
    let odd : 2 * i + 1 ≡ suc (2 * i) = omega arith in
    let here : v ≡ hex_value (get_or s (2 * i) 0) * 16 + hex_value (get_or s (suc (2 * i)) 0) = rw (← odd) e in
    let step = unhex-cons s (2 * i) (omega arith) in
    let push : take (i + 1) (slice_set bytes i v) ≡ take i bytes ++ v ∷ [] = take_more_set bytes i v h in
    rw (push, two, append_assoc, here, ← step) was

-- a secret may have a digit
is_allowed-digit : (b : ℕ) → is_hex_byte b ≡ true → is_allowed (Some 58) b ≡ true
is_allowed-digit b h = grind (arith, nat_tests)

list_all-digits : (bs : List ℕ) → list_all is_hex_byte bs ≡ true → list_all (is_allowed (Some 58)) bs ≡ true
list_all-digits [] h = refl
list_all-digits (b ∷ bs) h =
    let both = and_parts (is_hex_byte b) (list_all is_hex_byte bs) h in
    rw (is_allowed-digit b both.0) (list_all-digits bs both.1)

-- 32 digits are a secret
pub is_secret-digits : (bs : List ℕ) → list_all is_hex_byte bs ≡ true → length bs ≡ 32 → IsTrue (is_secret bs)
is_secret-digits bs h n = rw (n, list_all-digits bs h) refl

-- a digit stands for what it was written for
hex_value-digit : (n : ℕ) → n < 16 → hex_value (hex_digit n) ≡ n
hex_value-digit n h = grind (arith, nat_tests)

-- the digits of bytes spell these bytes
pub unhex-hex : (bs : List ℕ) → ((i : ℕ) → get_or bs i 0 < 256) → unhex (hex bs) ≡ bs
unhex-hex [] h = refl
unhex-hex (b ∷ bs) h =
    let small : b < 256 = h 0 in
    let high = hex_value-digit (b / 16) (omega arith) in
    let low = hex_value-digit (b % 16) (omega arith) in
    let whole : b / 16 * 16 + b % 16 ≡ b = omega arith in
    rw (high, low, whole, unhex-hex bs (λ i. h (suc i))) refl

-- and are read as these bytes
pub fresh_of-digits : (digits bs : List ℕ) → digits ≡ hex bs → list_all is_hex_byte digits ≡ true → length digits ≡ 32 → ((i : ℕ) → get_or bs i 0 < 256) → fresh_of digits ≡ Some bs
fresh_of-digits digits bs e h n small = rw (n, h) (ap Some (ap unhex e ∙ unhex-hex bs small))
