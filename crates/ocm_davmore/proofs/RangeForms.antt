-- The written forms of spans, and what is read of them.
use Rattle.std.proofs.Common.{◌≡◌, ℕ, ◌<◌, ◌≤◌, ◌^◌, Bool, true, false, cond, List, [], ◌∷◌, ◌++◌, length, take, drop, Option, Some, None, Result, refl, sym, ap, subst, ◌∙◌, arith, lit<, eqb-true}
use Rattle.std.specs.Prelude.{nat_eq, nat_le, nat_lt, codes, decimal, option_and_then, ◌↔◌, IsNone, IfSome, IsTrue}
use Rattle.std.specs.List.{list_all, starts_with}
use Rattle.std.specs.Char.{is_ascii_digit}
use Rattle.std.specs.Result.{result_ok}
use Rattle.std.specs.Str.{IsUtf8}
use Rattle.std.specs.Str.Parse.{digits_value, ParsesUnsigned}
use Rattle.std.proofs.lemmas.Bool.{and_parts, and_from, cond-true, cond-false, le-leb, leb-true, lt-ltb, ltb-true, ne_eqb}
use Rattle.std.proofs.lemmas.Bool.Decides.{nat_tests}
use Rattle.std.proofs.lemmas.Fmt.{IsAscii-from_digits, digits_decimal, digits_value-decimal, decimal_nonempty, length-decimal-le}
use Rattle.std.proofs.lemmas.List.{take-append-drop}
use Rattle.std.proofs.lemmas.Slice.Eq.{bytes_eq-Decides}
use Rattle.std.proofs.lemmas.Str.{IsUtf8-from_ascii}
use Rattle.std.proofs.lemmas.Str.Parse.{digits_value_short, parse_gives}
use Rattle.ocm_types.specs.Texts.{has_length}
use Rattle.ocm_types.specs.Hosts.{after_front, cut_at_first}
use Rattle.ocm_types.proofs.HostTexts.{Lacks, Lacks-from_all, cut_at_first-at, after_front-at}
use Rattle.ocm_types.proofs.HostReading.{own}
use Rattle.ocm_davmore.specs.declared.ranges.Span.{Span}
use Rattle.ocm_davmore.specs.declared.ranges.Span.TheVariants.{First, From, Last}
use Rattle.ocm_davmore.specs.Ranges.{is_number, Writes, IsWritten, number_of, suffix_of, between, span_around, span_cut, span_of, is_span, span_text}

-- ---- small steps

-- the value behind a test that passed
some_guard : {A : Type 0} (b : Bool) (x y : A) → cond b (Some x) None ≡ Some y → (b ≡ true) × (x ≡ y)
some_guard true x y e = (refl, cc)
some_guard false x y e = absurd cc

-- the first value of two that follow each other
some_then : {A B : Type 0} (f : A → Option B) (o : Option A) (y : B) → option_and_then f o ≡ Some y → (x : A) × (o ≡ Some x) × (f x ≡ Some y)
some_then f None y e = absurd cc
some_then f (Some x) y e = (x, refl, e)

-- what stands behind a front
front_back : (front text rest : List ℕ) → after_front front text ≡ Some rest → text ≡ front ++ rest
front_back front text rest e =
    let parts = some_guard (starts_with nat_eq text front) (drop (length front) text) rest e in
    let same = (bytes_eq-Decides front (take (length front) text)).0 parts.0 in
    sym (take-append-drop (length front) text) ∙ ap (λ (x : List ℕ). x ++ drop (length front) text) (sym same) ∙ ap (λ (x : List ℕ). front ++ x) parts.1

-- what stands around the separator at which a text is cut
cut_back : (c : ℕ) (text first last : List ℕ) → cut_at_first c text ≡ (first, Some last) → text ≡ first ++ c ∷ last
cut_back c [] first last e = let none : None ≡ Some last = ap (λ (p : List ℕ × Option (List ℕ)). p.1) e in absurd cc
cut_back c (b ∷ bytes) first last e =
    let later = cut_at_first c bytes in
    let at : (t : Bool) → nat_eq b c ≡ t → cond {A = List ℕ × Option (List ℕ)} t ([], Some bytes) (b ∷ later.0, later.1) ≡ (first, Some last) → b ∷ bytes ≡ first ++ c ∷ last =
    λ t. elim t as (λ t. nat_eq b c ≡ t → cond {A = List ℕ × Option (List ℕ)} t ([], Some bytes) (b ∷ later.0, later.1) ≡ (first, Some last) → b ∷ bytes ≡ first ++ c ∷ last) [
      | true ↦ λ is cut.
          let none : [] ≡ first = ap (λ (p : List ℕ × Option (List ℕ)). p.0) cut in
          let rest : Some bytes ≡ Some last = ap (λ (p : List ℕ × Option (List ℕ)). p.1) cut in
          let same : bytes ≡ last = cc in
          let byte : b ≡ c = eqb-true b c is in
          rw (byte, same, ← none) refl
      | false ↦ λ is cut.
          let front : b ∷ later.0 ≡ first = ap (λ (p : List ℕ × Option (List ℕ)). p.0) cut in
          let rest : later.1 ≡ Some last = ap (λ (p : List ℕ × Option (List ℕ)). p.1) cut in
          ap (λ (x : List ℕ). b ∷ x) (cut_back c bytes later.0 last (ap (λ (o : Option (List ℕ)). (later.0, o)) rest)) ∙ ap (λ (x : List ℕ). x ++ c ∷ last) front
    ] in
    at (nat_eq b c) refl e

-- ---- numbers

-- digits that are read as a number write it
number_of-Some : (digits : List ℕ) (n : ℕ) → number_of digits ≡ Some n → Writes digits n
number_of-Some digits n e =
    let parts = some_guard (is_number digits) (digits_value 10 digits) n e in
    record { number = parts.0; value = parts.1 }

-- digits that write a number are read as it
number_of-Writes : (digits : List ℕ) (n : ℕ) → Writes digits n → number_of digits ≡ Some n
number_of-Writes digits n w = cond-true _ _ _ w.number ∙ ap (λ (x : ℕ). Some x) w.value

-- the parts of a number
number_digits : (digits : List ℕ) → is_number digits ≡ true → list_all is_ascii_digit digits ≡ true
number_digits digits h = (and_parts (list_all is_ascii_digit digits) (has_length 1 19 digits) h).0

number_length : (digits : List ℕ) → is_number digits ≡ true → (1 ≤ length digits) × (length digits ≤ 19)
number_length digits h =
    let long = (and_parts (list_all is_ascii_digit digits) (has_length 1 19 digits) h).1 in
    let parts = and_parts (nat_le 1 (length digits)) (nat_le (length digits) 19) long in
    (leb-true 1 (length digits) parts.0, leb-true (length digits) 19 parts.1)

-- no number has a `-`
number_lacks_dash : (digits : List ℕ) → is_number digits ≡ true → Lacks 45 digits
number_lacks_dash digits h = Lacks-from_all 45 is_ascii_digit refl digits (number_digits digits h)

-- a number is below 10^19
Writes-below : (digits : List ℕ) (n : ℕ) → Writes digits n → n < 10 ^ 19
Writes-below digits n w =
    let small : digits_value 10 digits < 10 ^ 19 = digits_value_short own digits 19 (number_digits digits w.number) (number_length digits w.number).1 in
    let Below : ℕ → Type 0 = λ x. x < 10 ^ 19 in
    subst Below w.value small

-- the decimal of a number below 10^19 writes it
Writes-decimal : (n : ℕ) → n < 10 ^ 19 → Writes (decimal n) n
Writes-decimal n small =
    let fits : n < 2 ^ 64 = omega arith in
    let some : 1 ≤ length (decimal n) = decimal_nonempty n fits in
    let few : length (decimal n) ≤ 19 = length-decimal-le 19 n (lit< tt) small fits in
    record {
      number = and_from _ _ (digits_decimal own n fits) (and_from _ _ (le-leb _ _ some) (le-leb _ _ few));
      value = digits_value-decimal own n fits;
    }

-- a number is a text
pub number-utf8 : (digits : List ℕ) → is_number digits ≡ true → IsUtf8 digits
number-utf8 digits h = IsUtf8-from_ascii digits (IsAscii-from_digits digits (own.to digits (number_digits digits h)))

-- what the standard library reads of a number is its value
pub parsed_number : {E : Type 0} (digits text : List ℕ) (r : Result ℕ E) → text ≡ digits → is_number digits ≡ true → ParsesUnsigned 64 10 text r → result_ok r ≡ number_of digits
parsed_number {E} digits text r same h parsed =
    let some = (number_length digits h).0 in
    let below = Writes-below digits (digits_value 10 digits) (record { number = h; value = refl }) in
    let here : ParsesUnsigned 64 10 digits r = rw same at parsed in
    ap result_ok (parse_gives own {E = E} 64 digits r here (number_digits digits h) (omega arith) (omega arith))
    ∙ sym (number_of-Writes digits (digits_value 10 digits) (record { number = h; value = refl }))

-- ---- from a written form to its span

-- what is read behind the unit, around the first `-`
span_of-cut : (first last : List ℕ) → Lacks 45 first → span_of (codes "bytes=" ++ (first ++ 45 ∷ last)) ≡ span_around first last
span_of-cut first last lacks =
    ap (option_and_then (λ set. span_cut (cut_at_first 45 set))) (after_front-at (codes "bytes=") (first ++ 45 ∷ last))
    ∙ ap span_cut (cut_at_first-at 45 first last lacks)

around-First : (first last : List ℕ) (a b : ℕ) → Writes first a → Writes last b → a ≤ b → span_around first last ≡ Some (First a b)
around-First [] last a b wa wb ordered = let some = (number_length [] wa.number).0 in absurd (omega arith)
around-First (d ∷ first) [] a b wa wb ordered = let some = (number_length [] wb.number).0 in absurd (omega arith)
around-First (d ∷ first) (e ∷ last) a b wa wb ordered =
    ap (option_and_then (λ x. option_and_then (between x) (number_of (e ∷ last)))) (number_of-Writes (d ∷ first) a wa)
    ∙ ap (option_and_then (between a)) (number_of-Writes (e ∷ last) b wb)
    ∙ cond-true _ _ _ (le-leb a b ordered)

around-From : (first : List ℕ) (a : ℕ) → Writes first a → span_around first [] ≡ Some (From a)
around-From [] a w = let some = (number_length [] w.number).0 in absurd (omega arith)
around-From (d ∷ first) a w = ap (option_and_then (λ x. Some (From x))) (number_of-Writes (d ∷ first) a w)

around-Last : (suffix : List ℕ) (n : ℕ) → Writes suffix n → 1 ≤ n → span_around [] suffix ≡ Some (Last n)
around-Last suffix n w some =
    ap (option_and_then suffix_of) (number_of-Writes suffix n w) ∙ cond-false _ _ _ (ne_eqb n 0 (λ e. omega arith))

-- each written form is read as its span
pub span_of-IsWritten : (span : Span) (value : List ℕ) → IsWritten span value → span_of value ≡ Some span
span_of-IsWritten (First a b) value w =
    ap span_of w.5 ∙ span_of-cut w.0 w.1 (number_lacks_dash w.0 w.2.number) ∙ around-First w.0 w.1 a b w.2 w.3 w.4
span_of-IsWritten (From a) value w =
    ap span_of w.2 ∙ span_of-cut w.0 [] (number_lacks_dash w.0 w.1.number) ∙ around-From w.0 a w.1
span_of-IsWritten (Last n) value w =
    ap span_of w.3 ∙ span_of-cut [] w.0 tt ∙ around-Last w.0 n w.1 w.2

-- ---- from what is read to its form

around-written : (first last : List ℕ) (span : Span) → span_around first last ≡ Some span → IsWritten span (codes "bytes=" ++ (first ++ 45 ∷ last))
around-written [] last span e =
    let number = some_then suffix_of (number_of last) span e in
    let some : (t : Bool) → nat_eq number.0 0 ≡ t → cond t None (Some (Last number.0)) ≡ Some span → (1 ≤ number.0) × (Last number.0 ≡ span) =
    λ t. elim t as (λ t. nat_eq number.0 0 ≡ t → cond t None (Some (Last number.0)) ≡ Some span → (1 ≤ number.0) × (Last number.0 ≡ span)) [
      | true ↦ λ is none. absurd cc
      | false ↦ λ is this. (grind (arith, nat_tests), cc)
    ] in
    let parts = some (nat_eq number.0 0) refl number.2 in
    subst (λ (s : Span). IsWritten s (codes "bytes=" ++ 45 ∷ last)) parts.1 (last, number_of-Some last number.0 number.1, parts.0, refl)
around-written (d ∷ first) [] span e =
    let number = some_then (λ a. Some (From a)) (number_of (d ∷ first)) span e in
    let same : From number.0 ≡ span = let this : Some (From number.0) ≡ Some span = number.2 in cc in
    subst (λ (s : Span). IsWritten s (codes "bytes=" ++ ((d ∷ first) ++ 45 ∷ []))) same (d ∷ first, number_of-Some (d ∷ first) number.0 number.1, refl)
around-written (d ∷ first) (e ∷ last) span is =
    let one = some_then (λ a. option_and_then (between a) (number_of (e ∷ last))) (number_of (d ∷ first)) span is in
    let two = some_then (between one.0) (number_of (e ∷ last)) span one.2 in
    let parts = some_guard (nat_le one.0 two.0) (First one.0 two.0) span two.2 in
    subst (λ (s : Span). IsWritten s (codes "bytes=" ++ ((d ∷ first) ++ 45 ∷ e ∷ last))) parts.1
    (d ∷ first, e ∷ last, number_of-Some (d ∷ first) one.0 one.1, number_of-Some (e ∷ last) two.0 two.1, leb-true one.0 two.0 parts.0, refl)

cut-written : (cut : List ℕ × Option (List ℕ)) (set : List ℕ) (span : Span) → cut_at_first 45 set ≡ cut → span_cut cut ≡ Some span → IsWritten span (codes "bytes=" ++ set)
cut-written (first, None) set span is e = absurd cc
cut-written (first, Some last) set span is e =
    subst (λ (s : List ℕ). IsWritten span (codes "bytes=" ++ s)) (sym (cut_back 45 set first last is)) (around-written first last span e)

-- what is read of a value is written so
pub IsWritten-span_of : (value : List ℕ) (span : Span) → span_of value ≡ Some span → IsWritten span value
IsWritten-span_of value span e =
    let set = some_then (λ s. span_cut (cut_at_first 45 s)) (after_front (codes "bytes=") value) span e in
    subst (IsWritten span) (sym (front_back (codes "bytes=") value set.0 set.1)) (cut-written (cut_at_first 45 set.0) set.0 span refl set.2)

-- ---- spans

-- what is written is a span
is_span-IsWritten : (span : Span) (value : List ℕ) → IsWritten span value → is_span span ≡ true
is_span-IsWritten (First a b) value w = and_from _ _ (le-leb a b w.4) (lt-ltb b (10 ^ 19) (Writes-below w.1 b w.3))
is_span-IsWritten (From a) value w = lt-ltb a (10 ^ 19) (Writes-below w.0 a w.1)
is_span-IsWritten (Last n) value w = and_from _ _ (le-leb 1 n w.2) (lt-ltb n (10 ^ 19) (Writes-below w.0 n w.1))

-- a span's text is one of its written forms
IsWritten-span_text : (span : Span) → is_span span ≡ true → IsWritten span (span_text span)
IsWritten-span_text (First a b) h =
    let parts = and_parts (nat_le a b) (nat_lt b (10 ^ 19)) h in
    let ordered = leb-true a b parts.0 in
    let small = ltb-true b (10 ^ 19) parts.1 in
    (decimal a, decimal b, Writes-decimal a (omega arith), Writes-decimal b small, ordered, refl)
IsWritten-span_text (From a) h = (decimal a, Writes-decimal a (ltb-true a (10 ^ 19) h), refl)
IsWritten-span_text (Last n) h =
    let parts = and_parts (nat_le 1 n) (nat_lt n (10 ^ 19)) h in
    (decimal n, Writes-decimal n (ltb-true n (10 ^ 19) parts.1), leb-true 1 n parts.0, refl)

-- ---- the laws

-- a span's text is read as that span
pub reads_back : (span : Span) → is_span span ≡ true → span_of (span_text span) ≡ Some span
reads_back span h = span_of-IsWritten span (span_text span) (IsWritten-span_text span h)

-- what is read is a span
pub sound : (value : List ℕ) (span : Span) → span_of value ≡ Some span → is_span span ≡ true
sound value span e = is_span-IsWritten span value (IsWritten-span_of value span e)

-- a value is read as a span just where it is one of that span's written forms
pub written : (value : List ℕ) (span : Span) → (span_of value ≡ Some span) ↔ IsWritten span value
written value span = (IsWritten-span_of value span, span_of-IsWritten span value)

-- ---- the laws of what was read

pub written_of : (value : List ℕ) (read : Option Span) → read ≡ span_of value → (span : Span) → (read ≡ Some span) ↔ IsWritten span value
written_of value read is span = (λ e. IsWritten-span_of value span (sym is ∙ e), λ w. is ∙ span_of-IsWritten span value w)

pub none_of : (value : List ℕ) (read : Option Span) → read ≡ span_of value → IsNone read ↔ ((span : Span) → ¬ IsWritten span value)
none_of value None is = (λ n span w. let e : span_of value ≡ Some span = span_of-IsWritten span value w in cc, λ none. refl)
none_of value (Some span) is = (λ n. absurd cc, λ none. absurd (none span (IsWritten-span_of value span (sym is))))

pub sound_of : (value : List ℕ) (read : Option Span) → read ≡ span_of value → IfSome read (λ span. IsTrue (is_span span))
sound_of value None is = tt
sound_of value (Some span) is = sound value span (sym is)
