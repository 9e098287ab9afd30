-- What is written of a read is read back as that read.
use Rattle.std.proofs.Common.{◌≡◌, ℕ, ◌+◌, ◌-◌, ◌*◌, ◌/◌, ◌%◌, ◌^◌, ◌<◌, ◌≤◌, List, [], ◌∷◌, ◌++◌, length, Bool, true, Some, All, refl, sym, ap, ◌∙◌, arith}
use Rattle.std.specs.Prelude.{◌&&◌, nat_lt, bytes_eq, codes, decimal}
use Rattle.std.specs.List.{list_all}
use Rattle.std.specs.Str.{is_utf8}
use Rattle.std.proofs.lemmas.Bool.{and_parts, and_from, cond_both, cond-true, ltb-true}
use Rattle.std.proofs.lemmas.Bool.Decides.{nat_tests}
use Rattle.std.proofs.lemmas.List.Elements.{All-nil, All-cons, All-append, All-push, All-weaker}
use Rattle.std.proofs.lemmas.Fmt.{decimal_digit, decimal_step, decimal_by_steps}
use Rattle.std.proofs.lemmas.Slice.Eq.{bytes_eq-Decides}
use Rattle.std.proofs.lemmas.Str.{is_utf8-from_IsUtf8, IsUtf8-from_ascii}
use Rattle.std.proofs.lemmas.Str.Ascii.{IsAscii-from_all}
use Rattle.percent_encoding.specs.Percent.{percent_encode_byte, percent_decode}
use Rattle.percent_encoding.proofs.PercentLemmas.{IsEscapeByte, All-percent_encode_byte, round_trip}
use Rattle.ocm_texts.specs.Decimal.{is_digit_byte}
use Rattle.ocm_texts.proofs.DecimalLaws.{printed}
use Rattle.ocm_types.specs.Texts.{is_secret}
use Rattle.ocm_path.specs.declared.escapes.TheConstants.{ESCAPED}
use Rattle.ocm_path.specs.Escapes.{is_unreserved, escape_byte, escape}
use Rattle.ocm_path.specs.Paths.{Segments, is_path, path_text, joined_escaped, path_escaped}
use Rattle.ocm_path.proofs.Kept.{percent_encode-ESCAPED}
use Rattle.ocm_path.proofs.RoundTrip.{is_utf8-bytes, path_of-path_escaped}
use Rattle.ocm_entry.specs.declared.asks.Method.{Method}
use Rattle.ocm_entry.specs.declared.asks.Method.TheVariants.{Get, Head, List0, List1}
use Rattle.ocm_access_log.specs.Lines.{is_reading, method_text, text_of, number_word, method_word, secret_word, path_word, status_word}

-- ---- the bytes of the words

-- a byte of ASCII that is no control character and no space
pub record IsPlain (b : ℕ) : Type 0 where
  pub above : 32 < b
  pub below : b < 128

abbrev is_plain : ℕ → Bool
is_plain b = nat_lt 32 b && nat_lt b 128

plain_test : (b : ℕ) → is_plain b ≡ true → IsPlain b
plain_test b h = let parts = and_parts (nat_lt 32 b) (nat_lt b 128) h in record { above = ltb-true 32 b parts.0; below = ltb-true b 128 parts.1 }

plain_tests : (bytes : List ℕ) → list_all is_plain bytes ≡ true → All IsPlain bytes
plain_tests [] h = All-nil IsPlain
plain_tests (b ∷ bytes) h =
    let parts = and_parts (is_plain b) (list_all is_plain bytes) h in
    All-cons IsPlain b bytes (plain_test b parts.0) (plain_tests bytes parts.1)

pub plain-method : (method : Method) → is_reading method ≡ true → All IsPlain (method_text method)
plain-method Get h = plain_tests (codes "get") refl
plain-method Head h = plain_tests (codes "head") refl
plain-method List0 h = plain_tests (codes "list0") refl
plain-method List1 h = plain_tests (codes "list1") refl
plain-method _ h = absurd cc

digit-plain : (d : ℕ) → d < 10 → IsPlain (48 + d)
digit-plain d h = record { above = omega arith; below = omega arith }

pub plain-decimal : (n : ℕ) → n < 2 ^ 64 → All IsPlain (decimal n)
plain-decimal n h =
    decimal_by_steps (λ _ digits. All IsPlain digits)
    (λ d small. All-cons IsPlain (48 + d) [] (digit-plain d small) (All-nil IsPlain))
    (λ m digits large all. All-push IsPlain digits (48 + m % 10) all (digit-plain (m % 10) (omega arith)))
    n h

unreserved-plain : (b : ℕ) → is_unreserved b ≡ true → IsPlain b
unreserved-plain b h = record { above = grind (arith, nat_tests); below = grind (arith, nat_tests) }

escaped-plain : (b : ℕ) → IsEscapeByte b → IsPlain b
escaped-plain b h = record { above = grind arith; below = grind arith }

pub plain-escape : (bytes : List ℕ) → All IsPlain (escape bytes)
plain-escape [] = All-nil IsPlain
plain-escape (b ∷ bytes) =
    All-append IsPlain (escape_byte b) (escape bytes)
    (cond_both (is_unreserved b) (b ∷ []) (percent_encode_byte b) (All IsPlain)
    (λ kept. All-cons IsPlain b [] (unreserved-plain b kept) (All-nil IsPlain))
    (λ _. All-weaker IsEscapeByte IsPlain escaped-plain (percent_encode_byte b) (All-percent_encode_byte b)))
    (plain-escape bytes)

plain-joined : (path : Segments) → All IsPlain (joined_escaped path)
plain-joined [] = All-nil IsPlain
plain-joined (s ∷ ss) = All-append IsPlain (47 ∷ escape s) (joined_escaped ss) (All-cons IsPlain 47 (escape s) (plain_test 47 refl) (plain-escape s)) (plain-joined ss)

pub plain-path : (path : Segments) → All IsPlain (path_escaped path)
plain-path path = cond_both _ (47 ∷ []) (joined_escaped path) (All IsPlain) (λ _. plain_tests (47 ∷ []) refl) (λ _. plain-joined path)

-- ---- each word is read back

same_bytes : (bytes : List ℕ) → bytes_eq bytes bytes ≡ true
same_bytes bytes = (bytes_eq-Decides bytes bytes).1 refl

text_of-plain : (bytes : List ℕ) → All IsPlain bytes → text_of bytes ≡ Some bytes
text_of-plain bytes plain =
    let ascii = IsAscii-from_all bytes (All-weaker IsPlain (λ b. b < 128) (λ b h. h.below) bytes plain) in
    cond-true _ _ _ (is_utf8-from_IsUtf8 bytes (IsUtf8-from_ascii bytes ascii))

pub number-back : (n : ℕ) → n < 2 ^ 64 → number_word (decimal n) ≡ Some n
unfolding number_word
number-back n h = rw (text_of-plain (decimal n) (plain-decimal n h)) ((printed (decimal n) n).1 (h, refl))

pub method-back : (method : Method) → is_reading method ≡ true → method_word (method_text method) ≡ Some method
unfolding method_word
method-back Get h = refl
method-back Head h = refl
method-back List0 h = refl
method-back List1 h = refl
method-back _ h = absurd cc

escape-back : (text : List ℕ) → is_utf8 text ≡ true → percent_decode (escape text) ≡ text
escape-back text utf8 =
    let small = is_utf8-bytes text utf8 in
    ap percent_decode (sym (percent_encode-ESCAPED text small)) ∙ round_trip ESCAPED text refl small

pub secret-back : (secret : List ℕ) → is_secret secret ≡ true → is_utf8 secret ≡ true → secret_word (escape secret) ≡ Some secret
unfolding secret_word
secret-back secret sound utf8 = rw (escape-back secret utf8, utf8, sound, same_bytes (escape secret)) refl

pub path-back : (path : Segments) → is_path path ≡ true → length (path_text path) ≤ 1024 → path_word (path_escaped path) ≡ Some path
unfolding path_word
path-back path sound short = rw (text_of-plain (path_escaped path) (plain-path path), path_of-path_escaped path sound short, same_bytes (path_escaped path)) refl

three_digits : (n : ℕ) → 100 ≤ n → n ≤ 999 → decimal n ≡ (48 + n / 10 / 10) ∷ (48 + n / 10 % 10) ∷ (48 + n % 10) ∷ []
three_digits n least most =
    decimal_step n (omega arith) (omega arith)
    ∙ ap (λ (digits : List ℕ). digits ++ (48 + n % 10) ∷ [])
    (decimal_step (n / 10) (omega arith) (omega arith) ∙ ap (λ (digits : List ℕ). digits ++ (48 + n / 10 % 10) ∷ []) (decimal_digit (n / 10 / 10) (omega arith)))

digit-test : (d : ℕ) → d < 10 → is_digit_byte (48 + d) ≡ true
digit-test d h = grind (arith, nat_tests)

pub status-back : (n : ℕ) → 100 ≤ n → n ≤ 999 → status_word (decimal n) ≡ Some n
unfolding status_word
status-back n least most =
    let first = digit-test (n / 10 / 10) (omega arith) in
    let second = digit-test (n / 10 % 10) (omega arith) in
    let third = digit-test (n % 10) (omega arith) in
    let value : 100 * (48 + n / 10 / 10 - 48) + 10 * (48 + n / 10 % 10 - 48) + (48 + n % 10 - 48) ≡ n = omega arith in
    ap status_word (three_digits n least most) ∙ cond-true _ _ _ (and_from _ _ first (and_from _ _ second third)) ∙ ap (λ (m : ℕ). Some m) value
