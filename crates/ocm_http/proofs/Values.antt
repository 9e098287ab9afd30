-- Values of fields that are read as they are written.
use Rattle.std.proofs.Common.{◌≡◌, ℕ, ◌+◌, ◌*◌, ◌/◌, ◌%◌, ◌^◌, ◌<◌, List, [], ◌∷◌, ◌++◌, length, reverse, replicate, Bool, true, false, cond, not, nat_eq, nat_lt, ne_eqb, codes, Option, Some, None, IfSome, refl, sym, ap, ◌∙◌, arith, length-append, slice_index, zero, suc, rules}
use Rattle.std.specs.List.{list_all}
use Rattle.std.specs.Char.{is_ascii_digit}
use Rattle.std.specs.Fmt.{decimal}
use Rattle.std.proofs.lemmas.Bool.{and_parts, and_from, both_ways, cond-false, ltb-true, lt-ltb}
use Rattle.std.proofs.lemmas.Bool.Decides.{nat_tests}
use Rattle.std.proofs.lemmas.List.{reverse-append, reverse-reverse, length-reverse}
use Rattle.std.proofs.lemmas.List.Folds.{list_all-append}
use Rattle.std.proofs.lemmas.List.Sums.{AllPass-from_list_all, list_all-from_AllPass}
use Rattle.std.proofs.lemmas.Fmt.{digits_decimal}
use Rattle.std.proofs.lemmas.Str.Parse.{IsNumeralModel, numerals_by_fold}
use Rattle.base64.specs.GeneralPurpose.{encode_of, engine_symbols}
use Rattle.base64.specs.Engines.{standard}
use Rattle.base64.specs.Rfc4648.{encode_symbols, encode_group, padding_len}
use Rattle.base64.proofs.RoundTrip.{length-encode_symbols}
use Rattle.base64.proofs.Tables.{all_below_at}
use Rattle.httparse.specs.Grammar.{IsToken, AllPass, is_uri_byte, is_value_byte, is_ows, skip_ows, trim_ows}
use Rattle.httparse.proofs.TrimLemmas.{AllPass-reverse}
use Rattle.ocm_types.specs.Hosts.{is_host, is_host_byte, is_host_name, is_kept_port, is_port, is_default_port, cut_at_first}
use Rattle.ocm_types.specs.Texts.{has_length}
use Rattle.ocm_texts.specs.Decimal.{number_after}
use Rattle.ocm_texts.specs.Hex.{AreBytes}
use Rattle.ocm_http.specs.Written.{basic}
use Rattle.ocm_http.specs.ReadBack.{IsClear, field}

-- ---- tests of bytes

pub all_pass : (p q : ℕ → Bool) → ((b : ℕ) → p b ≡ true → q b ≡ true) → (xs : List ℕ) → list_all p xs ≡ true → list_all q xs ≡ true
all_pass p q more [] h = refl
all_pass p q more (b ∷ xs) h =
    let parts = and_parts (p b) (list_all p xs) h in
    and_from _ _ (more b parts.0) (all_pass p q more xs parts.1)

pub not_this : (p : ℕ → Bool) (c b : ℕ) → p c ≡ false → p b ≡ true → nat_eq b c ≡ false
not_this p c b fails passes = ne_eqb b c (λ e. both_ways (p b) (ap p e ∙ fails) passes)

uri_is_value : (b : ℕ) → is_uri_byte b ≡ true → is_value_byte b ≡ true
uri_is_value b h = grind (arith, nat_tests)

uri_not_blank : (b : ℕ) → is_uri_byte b ≡ true → is_ows b ≡ false
uri_not_blank b h = grind (arith, nat_tests)

-- ---- blanks at the ends

skip_none : (b : ℕ) (xs : List ℕ) → is_uri_byte b ≡ true → skip_ows (b ∷ xs) ≡ b ∷ xs
skip_none b xs h = cond-false _ _ _ (uri_not_blank b h)

-- bytes none of which is a blank, and more behind them
skip_front : (xs more : List ℕ) → list_all is_uri_byte xs ≡ true → 0 < length xs → skip_ows (xs ++ more) ≡ xs ++ more
skip_front [] more all some = absurd (omega arith)
skip_front (b ∷ xs) more all some = skip_none b (xs ++ more) (and_parts _ _ all).0

skip_all : (xs : List ℕ) → list_all is_uri_byte xs ≡ true → skip_ows xs ≡ xs
skip_all [] all = refl
skip_all (b ∷ xs) all = skip_none b xs (and_parts _ _ all).0

reversed : (xs : List ℕ) → list_all is_uri_byte xs ≡ true → list_all is_uri_byte (reverse xs) ≡ true
reversed xs all = list_all-from_AllPass is_uri_byte (reverse xs) (AllPass-reverse is_uri_byte xs (AllPass-from_list_all is_uri_byte xs all))

visible_trimmed : (xs : List ℕ) → list_all is_uri_byte xs ≡ true → trim_ows xs ≡ xs
unfolding trim_ows
visible_trimmed xs all = rw (skip_all xs all, skip_all (reverse xs) (reversed xs all), reverse-reverse xs) refl

visible_value : (xs : List ℕ) → list_all is_uri_byte xs ≡ true → AllPass is_value_byte xs
visible_value xs all = AllPass-from_list_all is_value_byte xs (all_pass is_uri_byte is_value_byte uri_is_value xs all)

-- a field whose value has visible bytes alone
pub visible_clear : (name value : List ℕ) → IsToken name → list_all is_uri_byte value ≡ true → IsClear (field name value)
visible_clear name value token all = record { name = token; value = visible_value value all; trimmed = visible_trimmed value all }

-- ---- hosts

host_byte : (b : ℕ) → is_host_byte b ≡ true → is_uri_byte b ≡ true
host_byte b h = grind (arith, nat_tests)

digit_byte : (b : ℕ) → is_ascii_digit b ≡ true → is_uri_byte b ≡ true
digit_byte b h = grind (arith, nat_tests)

port_bytes : (port : Option (List ℕ)) → is_kept_port port ≡ true → IfSome port (λ digits. list_all is_uri_byte digits ≡ true)
port_bytes None h = tt
port_bytes (Some digits) h =
    let port : is_port digits ≡ true = (and_parts (is_port digits) (not (is_default_port digits)) h).0 in
    all_pass is_ascii_digit is_uri_byte digit_byte digits (and_parts _ _ (and_parts _ _ port).0).0

cut_bytes : (text : List ℕ) → list_all is_host_byte (cut_at_first 58 text).0 ≡ true → IfSome (cut_at_first 58 text).1 (λ digits. list_all is_uri_byte digits ≡ true) → list_all is_uri_byte text ≡ true
cut_bytes [] name port = refl
cut_bytes (b ∷ text) name port = by (nat_eq b 58) refl name port (cut_bytes text)
  where
    by : (t : Bool) → nat_eq b 58 ≡ t
        → list_all is_host_byte (cond {A = List ℕ × Option (List ℕ)} t ([], Some text) (b ∷ (cut_at_first 58 text).0, (cut_at_first 58 text).1)).0 ≡ true
        → IfSome (cond {A = List ℕ × Option (List ℕ)} t ([], Some text) (b ∷ (cut_at_first 58 text).0, (cut_at_first 58 text).1)).1 (λ digits. list_all is_uri_byte digits ≡ true)
        → (list_all is_host_byte (cut_at_first 58 text).0 ≡ true → IfSome (cut_at_first 58 text).1 (λ digits. list_all is_uri_byte digits ≡ true) → list_all is_uri_byte text ≡ true)
        → list_all is_uri_byte (b ∷ text) ≡ true
    by true e n p rest = and_from _ _ (grind (arith, nat_tests)) p
    by false e n p rest = let parts = and_parts (is_host_byte b) _ n in and_from _ _ (host_byte b parts.0) (rest parts.1 p)

pub host_visible : (host : List ℕ) → is_host host ≡ true → list_all is_uri_byte host ≡ true
host_visible host h =
    let parts = and_parts (is_host_name (cut_at_first 58 host).0) (is_kept_port (cut_at_first 58 host).1) h in
    let name = and_parts (has_length 1 240 (cut_at_first 58 host).0) (list_all is_host_byte (cut_at_first 58 host).0) parts.0 in
    cut_bytes host name.1 (port_bytes (cut_at_first 58 host).1 parts.1)

-- ---- lengths

pub digits_model : IsNumeralModel (λ ds. list_all is_ascii_digit ds ≡ true) (number_after 0)
digits_model = numerals_by_fold _ (search rules) number_after (search rules)

pub decimal_digits : (n : ℕ) → n < 2 ^ 64 → list_all is_ascii_digit (decimal n) ≡ true
decimal_digits n h = digits_decimal digits_model n h

pub decimal_visible : (n : ℕ) → n < 2 ^ 64 → list_all is_uri_byte (decimal n) ≡ true
decimal_visible n h = all_pass is_ascii_digit is_uri_byte digit_byte (decimal n) (decimal_digits n h)

-- ---- credentials

abbrev table : List ℕ
table = engine_symbols standard

symbol_visible : (i : ℕ) → i < 64 → is_uri_byte (slice_index table i) ≡ true
symbol_visible i h = all_below_at (λ k. is_uri_byte (slice_index table k)) 64 i refl h

abbrev is_byte : ℕ → Bool
is_byte b = nat_lt b 256

two_visible : (i j : ℕ) → i < 64 → j < 64 → list_all is_uri_byte (slice_index table i ∷ slice_index table j ∷ []) ≡ true
two_visible i j h k = and_from _ _ (symbol_visible i h) (and_from _ _ (symbol_visible j k) refl)

three_visible : (i j k : ℕ) → i < 64 → j < 64 → k < 64 → list_all is_uri_byte (slice_index table i ∷ slice_index table j ∷ slice_index table k ∷ []) ≡ true
three_visible i j k h l m = and_from _ _ (symbol_visible i h) (two_visible j k l m)

below : (b : ℕ) → is_byte b ≡ true → b < 256
below b h = ltb-true b 256 h

symbols_visible : (m : List ℕ) → list_all is_byte m ≡ true → list_all is_uri_byte (encode_symbols table m) ≡ true
unfolding encode_symbols
symbols_visible [] h = refl
symbols_visible (a ∷ []) h =
    let la : a < 256 = below a (and_parts _ _ h).0 in
    two_visible (a / 4) (a % 4 * 16) (omega arith) (omega arith)
symbols_visible (a ∷ b ∷ []) h =
    let ha = and_parts (is_byte a) (list_all is_byte (b ∷ [])) h in
    let la : a < 256 = below a ha.0 in
    let lb : b < 256 = below b (and_parts _ _ ha.1).0 in
    three_visible (a / 4) (a % 4 * 16 + b / 16) (b % 16 * 4) (omega arith) (omega arith) (omega arith)
symbols_visible (a ∷ b ∷ c ∷ rest) h =
    let ha = and_parts (is_byte a) (list_all is_byte (b ∷ c ∷ rest)) h in
    let hb = and_parts (is_byte b) (list_all is_byte (c ∷ rest)) ha.1 in
    let hc = and_parts (is_byte c) (list_all is_byte rest) hb.1 in
    let la : a < 256 = below a ha.0 in
    let lb : b < 256 = below b hb.0 in
    let lc : c < 256 = below c hc.0 in
    list_all-append is_uri_byte (encode_group table a b c) (encode_symbols table rest)
    ∙ and_from _ _
    (and_from _ _ (symbol_visible (a / 4) (omega arith))
    (three_visible (a % 4 * 16 + b / 16) (b % 16 * 4 + c / 64) (c % 64) (omega arith) (omega arith) (omega arith)))
    (symbols_visible rest hc.1)

padding_visible : (n : ℕ) → list_all is_uri_byte (replicate n 61) ≡ true
padding_visible zero = refl
padding_visible (suc n) = padding_visible n

encoded_visible : (m : List ℕ) → list_all is_byte m ≡ true → list_all is_uri_byte (encode_of standard m) ≡ true
encoded_visible m h =
    list_all-append is_uri_byte (encode_symbols table m) (replicate (padding_len (length m)) 61)
    ∙ and_from _ _ (symbols_visible m h) (padding_visible (padding_len (length m)))

some_in_front : (xs ys : List ℕ) → 0 < length xs → 0 < length (xs ++ ys)
some_in_front xs ys some = omega (arith, length-append xs ys)

encoded_some : (m : List ℕ) → 0 < length m → 0 < length (encode_of standard m)
encoded_some m some =
    let symbols : length (encode_symbols table m) ≡ (4 * length m + 2) / 3 = length-encode_symbols table m in
    some_in_front (encode_symbols table m) (replicate (padding_len (length m)) 61) (omega arith)

bytes_test : (xs : List ℕ) → AreBytes xs → list_all is_byte xs ≡ true
bytes_test [] h = refl
bytes_test (b ∷ xs) h = and_from _ _ (lt-ltb b 256 (h 0)) (bytes_test xs (λ i. h (suc i)))

trimmed_by : (xs : List ℕ) → skip_ows xs ≡ xs → skip_ows (reverse xs) ≡ reverse xs → trim_ows xs ≡ xs
unfolding trim_ows
trimmed_by xs front back = ap (λ l. reverse (skip_ows (reverse l))) front ∙ (ap reverse back ∙ reverse-reverse xs)

-- a word and a blank before visible bytes
after_blank : (xs : List ℕ) → list_all is_uri_byte xs ≡ true → 0 < length xs → trim_ows (codes "Basic " ++ xs) ≡ codes "Basic " ++ xs
after_blank xs all some =
    let turned : reverse (codes "Basic " ++ xs) ≡ reverse xs ++ reverse (codes "Basic ") = reverse-append (codes "Basic ") xs in
    let skip : skip_ows (reverse xs ++ reverse (codes "Basic ")) ≡ reverse xs ++ reverse (codes "Basic ") = skip_front (reverse xs) (reverse (codes "Basic ")) (reversed xs all) (omega (arith, length-reverse xs)) in
    trimmed_by (codes "Basic " ++ xs) refl (ap skip_ows turned ∙ (skip ∙ sym turned))

pub basic_clear : (name secret : List ℕ) → IsToken name → AreBytes secret → IsClear (field name (basic secret))
basic_clear name secret token bytes =
    let plain = secret ++ codes ":" in
    let all : list_all is_byte plain ≡ true = list_all-append is_byte secret (codes ":") ∙ and_from _ _ (bytes_test secret bytes) refl in
    let some : 0 < length plain = omega (arith, length-append secret (codes ":")) in
    let visible : list_all is_uri_byte (encode_of standard plain) ≡ true = encoded_visible plain all in
    let value : list_all is_value_byte (codes "Basic " ++ encode_of standard plain) ≡ true = all_pass is_uri_byte is_value_byte uri_is_value (encode_of standard plain) visible in
    record {
      name = token;
      value = AllPass-from_list_all is_value_byte (basic secret) value;
      trimmed = after_blank (encode_of standard plain) visible (encoded_some plain some);
    }
