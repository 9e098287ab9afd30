use Rattle.std.proofs.Common.{◌≡◌, ℕ, ◌-◌, ◌^◌, ◌<◌, ◌≤◌, List, [], ◌∷◌, length, zero, suc, Bool, true, false, Some, None, lit<, refl, arith}
use Rattle.std.specs.Prelude.{not, ◌&&◌, ◌||◌, ◌==◌, nat_le, slice_get, IsTrue}
use Rattle.std.specs.List.{list_all, list_any}
use Rattle.std.specs.Fmt.{decimal}
use Rattle.std.proofs.lemmas.Bool.{and_parts}
use Rattle.std.proofs.lemmas.Bool.Decides.{nat_tests}
use Rattle.std.proofs.lemmas.Fmt.{digits_decimal, decimal_nonempty, length-decimal-le}
use Rattle.ocm_texts.specs.Decimal.{is_digit_byte}
use Rattle.ocm_texts.proofs.DecimalLaws.{numerals}
use Rattle.std.specs.Str.{is_utf8}
use Rattle.ocm_path.specs.Paths.{Segments, is_barred, is_dots, is_segment, is_path, path_text, last}
use Rattle.ocm_types.specs.Texts.{is_allowed, is_text, is_name, is_share_name, is_provider_id, is_sender_id}

-- each byte passes a weaker test
list_all-weaker : (p q : ℕ → Bool) → ((b : ℕ) → p b ≡ true → q b ≡ true) → (bs : List ℕ) → list_all p bs ≡ true → list_all q bs ≡ true
list_all-weaker p q weaker [] h = refl
list_all-weaker p q weaker (b ∷ bs) h =
    let both = and_parts (p b) (list_all p bs) h in
    rw (weaker b both.0) (list_all-weaker p q weaker bs both.1)

-- a text of so many bytes
is_text-bytes : (high long : ℕ) (allowed : Bool) → 1 ≤ long → long ≤ high → allowed ≡ true → ((nat_le 1 long && nat_le long high) && allowed) ≡ true
is_text-bytes high long allowed some most h = grind (arith, nat_tests)

-- and what such a text has
is_text-parts : (high long : ℕ) (allowed : Bool) → ((nat_le 1 long && nat_le long high) && allowed) ≡ true → (1 ≤ long) × (long ≤ high) × (allowed ≡ true)
is_text-parts high long allowed h = (grind (arith, nat_tests), grind (arith, nat_tests), grind (arith, nat_tests))

-- a digit may stand in every text
is_allowed-digit : (b : ℕ) → is_digit_byte b ≡ true → is_allowed None b ≡ true
is_allowed-digit b h = grind (arith, nat_tests)

-- the decimal text of a number below 2^32 is a text of 10 bytes at most
is_text-decimal : (high n : ℕ) → n < 2 ^ 32 → 10 ≤ high → is_text high None (decimal n) ≡ true
is_text-decimal high n small wide =
    let wide_n : n < 2 ^ 64 = omega arith in
    let digits : list_all is_digit_byte (decimal n) ≡ true = digits_decimal numerals n wide_n in
    let allowed = list_all-weaker is_digit_byte (is_allowed None) is_allowed-digit (decimal n) digits in
    let some : 0 < length (decimal n) = decimal_nonempty n wide_n in
    let most : length (decimal n) ≤ 10 = length-decimal-le 10 n (lit< tt) (omega arith) wide_n in
    is_text-bytes high (length (decimal n)) (list_all (is_allowed None) (decimal n)) (omega arith) (omega arith) allowed

-- the decimal text of a number below 2^32 can be an owner's mark
pub provider_id-decimal : (text : List ℕ) (n : ℕ) → text ≡ decimal n → n < 2 ^ 32 → IsTrue (is_provider_id text)
provider_id-decimal text n e small = rw e (is_text-decimal 255 n small (omega arith))

-- and a recipient's mark
pub sender_id-decimal : (text : List ℕ) (n : ℕ) → text ≡ decimal n → n < 2 ^ 32 → IsTrue (is_sender_id text)
sender_id-decimal text n e small = rw e (is_text-decimal 64 n small (omega arith))

-- what a name may have, a share's name may have
is_allowed-name : (b : ℕ) → is_allowed (Some 47) b ≡ true → is_allowed None b ≡ true
is_allowed-name b h = grind (arith, nat_tests)

-- a user's name can be a share's name
pub share_name_name : (name : List ℕ) → IsTrue (is_name name) → IsTrue (is_share_name name)
share_name_name name h =
    let parts = is_text-parts 64 (length name) (list_all (is_allowed (Some 47)) name) h in
    let allowed = list_all-weaker (is_allowed (Some 47)) (is_allowed None) is_allowed-name name parts.2 in
    is_text-bytes 1024 (length name) (list_all (is_allowed None) name) parts.0 (omega arith) allowed

-- what passes in a list where each passes
list_all-at : (p : List ℕ → Bool) (xs : Segments) (i : ℕ) (x : List ℕ) → list_all p xs ≡ true → slice_get xs i ≡ Some x → p x ≡ true
list_all-at p [] i x h e = cc
list_all-at p (y ∷ ys) zero x h e =
    let same : y ≡ x = cc in
    rw same at (and_parts (p y) (list_all p ys) h).0
list_all-at p (y ∷ ys) (suc i) x h e = list_all-at p ys i x (and_parts (p y) (list_all p ys) h).1 e

not-or : (a b : Bool) → not (a || b) ≡ true → (not a ≡ true) × (not b ≡ true)
not-or true b h = cc
not-or false b h = (refl, h)

-- what a segment may have, a share's name may have
is_allowed-unbarred : (b : ℕ) → not (is_barred b) ≡ true → is_allowed None b ≡ true
is_allowed-unbarred b h = grind (arith, nat_tests)

list_all-unbarred : (bs : List ℕ) → not (list_any is_barred bs) ≡ true → list_all (is_allowed None) bs ≡ true
list_all-unbarred [] h = refl
list_all-unbarred (b ∷ bs) h =
    let both = not-or (is_barred b) (list_any is_barred bs) h in
    rw (is_allowed-unbarred b both.0) (list_all-unbarred bs both.1)

-- the parts of a segment that a share's name has too
is_segment-parts : (utf8 dots unbarred : Bool) (long : ℕ) → (utf8 && not (long == 0) && not dots && unbarred && nat_le long 255) ≡ true → (1 ≤ long) × (long ≤ 255) × (unbarred ≡ true)
is_segment-parts utf8 dots unbarred long h = (grind (arith, nat_tests), grind (arith, nat_tests), grind (arith, nat_tests))

-- a segment of a path can be a share's name
share_name_segment : (s : List ℕ) → is_segment s ≡ true → is_share_name s ≡ true
share_name_segment s h =
    let parts = is_segment-parts (is_utf8 s) (is_dots s) (not (list_any is_barred s)) (length s) h in
    is_text-bytes 1024 (length s) (list_all (is_allowed None) s) parts.0 (omega arith) (list_all-unbarred s parts.2)

-- the last segment of a path can be a share's name
pub share_name_last : (path : Segments) (s : List ℕ) → IsTrue (is_path path) → last path ≡ Some s → IsTrue (is_share_name s)
share_name_last path s h e =
    share_name_segment s (list_all-at is_segment path (length path - 1) s (and_parts (list_all is_segment path) (nat_le (length (path_text path)) 2048) h).0 e)

-- what decimal texts can be
pub ruleset id_rules = (provider_id-decimal, sender_id-decimal)
