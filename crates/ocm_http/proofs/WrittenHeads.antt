-- Heads that are written, as the grammar has them.
use Rattle.std.proofs.Common.{◌≡◌, ℕ, ◌^◌, ◌<◌, ◌≤◌, List, [], ◌∷◌, ◌++◌, length, take, drop, map, Bool, true, false, nat_eq, nat_le, nat_lt, Some, Ok, refl, sym, ap, ◌∙◌, subst, arith, append_assoc, append-nil, All}
use Rattle.std.specs.List.{flat_map, list_all}
use Rattle.std.specs.Fmt.{decimal}
use Rattle.std.specs.Char.{is_ascii_digit}
use Rattle.std.proofs.lemmas.Bool.{and_parts, and_from, not_from_false, not-true, or_from, cond-false, le-leb, le-ltb, lt-ltb}
use Rattle.std.proofs.lemmas.List.{take_at, drop_at, drop_all, take_all}
use Rattle.std.proofs.lemmas.List.Folds.{list_all-append}
use Rattle.std.proofs.lemmas.List.Sums.{AllPass-from_list_all, list_all-from_AllPass}
use Rattle.std.proofs.lemmas.List.Elements.{All-head, All-tail, All-map, All-weaker}
use Rattle.std.proofs.lemmas.Fmt.{digits_value-decimal, decimal_nonempty, length-decimal-le}
use Rattle.httparse.specs.Grammar.{Field as Line, IsField, IsToken, AllPass, crlf, print_field, is_token_byte, is_value_byte, is_uri_byte, trim_ows}
use Rattle.ocm_texts.specs.Decimal.{number_after}
use Rattle.ocm_http_heads.specs.Endings.{found, blanks, is_blank, of_head}
use Rattle.ocm_http_heads.specs.Heads.{field_of, kept_field}
use Rattle.ocm_http_heads.specs.Lengths.{counted}
use Rattle.ocm_http_heads.specs.declared.endings.Found.TheVariants as finds
use Rattle.ocm_http_heads.specs.declared.fields.Field.{Field}
use Rattle.ocm_http_heads.specs.declared.fields.Head.{Head}
use Rattle.ocm_http_heads.specs.declared.lengths.Length.TheVariants.{Sized}
use Rattle.ocm_http_heads.proofs.Looks.{whole_stays}
use Rattle.ocm_http.specs.Frames.{Given, Ended, IsFrame, sized}
use Rattle.ocm_http.specs.Messages.{SaysHead, length_of}
use Rattle.ocm_http.specs.Written.{line_end, with_field, with_fields}
use Rattle.ocm_http.specs.ReadBack.{lower, field, IsClear}
use Rattle.ocm_http.specs.declared.messages.Kind.{Kind}
use Rattle.ocm_http.proofs.HeadLines.{is_line, is_inside, ended_lines, head_text, head_found}
use Rattle.ocm_http.proofs.Values.{all_pass, not_this, digits_model, decimal_digits}

-- ---- fields

-- a field as a line of the grammar, and the text of that line
abbrev pub line_of : Field → Line
line_of f = record { name = f.name; raw = 32 ∷ f.value; end = crlf }

abbrev pub text_of : Field → List ℕ
text_of f = f.name ++ 58 ∷ 32 ∷ f.value

pub printed_lines : (fields : List Field) → flat_map print_field (map line_of fields) ≡ ended_lines (map text_of fields)
printed_lines [] = refl
printed_lines (f ∷ fields) = ap (λ l. (text_of f ++ line_end) ++ l) (printed_lines fields)

with_field_is : (text name value : List ℕ) → with_field text name value ≡ text ++ (text_of (field name value) ++ line_end)
with_field_is text name value = simp append_assoc refl

pub with_fields_is : (text : List ℕ) (fields : List Field) → with_fields text fields ≡ text ++ ended_lines (map text_of fields)
with_fields_is text [] = sym (append-nil text)
with_fields_is text (f ∷ fields) =
    with_fields_is (with_field text f.name f.value) fields
    ∙ (ap (λ l. l ++ ended_lines (map text_of fields)) (with_field_is text f.name f.value)
    ∙ append_assoc text (text_of f ++ line_end) (ended_lines (map text_of fields)))

pub with_fields-append : (text : List ℕ) (xs ys : List Field) → with_fields text (xs ++ ys) ≡ with_fields (with_fields text xs) ys
with_fields-append text [] ys = refl
with_fields-append text (f ∷ xs) ys = with_fields-append (with_field text f.name f.value) xs ys

token_inside : (b : ℕ) → is_token_byte b ≡ true → is_inside b ≡ true
unfolding is_token_byte
token_inside b h = not_from_false (nat_eq b 10) (not_this is_token_byte 10 b refl h)

token_not_blank : (b : ℕ) → is_token_byte b ≡ true → is_blank b ≡ false
unfolding is_token_byte
token_not_blank b h = or_from (nat_eq b 10) (nat_eq b 13) (not_this is_token_byte 10 b refl h) (not_this is_token_byte 13 b refl h)

value_inside : (b : ℕ) → is_value_byte b ≡ true → is_inside b ≡ true
value_inside b h = not_from_false (nat_eq b 10) (not_this is_value_byte 10 b refl h)

pub uri_inside : (b : ℕ) → is_uri_byte b ≡ true → is_inside b ≡ true
uri_inside b h = not_from_false (nat_eq b 10) (not_this is_uri_byte 10 b refl h)

pub digit_inside : (b : ℕ) → is_ascii_digit b ≡ true → is_inside b ≡ true
digit_inside b h = not_from_false (nat_eq b 10) (not_this is_ascii_digit 10 b refl h)

-- a token, and then bytes that end no line
pub token_line : (name rest : List ℕ) → IsToken name → list_all is_inside rest ≡ true → is_line (name ++ rest) ≡ true
token_line [] rest token inside = absurd (omega (arith, token.0))
token_line (b ∷ name) rest token inside =
    let all = and_parts (is_token_byte b) (list_all is_token_byte name) (list_all-from_AllPass is_token_byte (b ∷ name) token.1) in
    and_from _ _ (not_from_false (is_blank b) (token_not_blank b all.0))
    (list_all-append is_inside name rest ∙ and_from _ _ (all_pass is_token_byte is_inside token_inside name all.1) inside)

pub values_inside : (value : List ℕ) → AllPass is_value_byte value → list_all is_inside value ≡ true
values_inside value h = all_pass is_value_byte is_inside value_inside value (list_all-from_AllPass is_value_byte value h)

field_line : (f : Field) → IsClear f → is_line (text_of f) ≡ true
field_line f clear = token_line f.name (58 ∷ 32 ∷ f.value) clear.name (values_inside f.value clear.value)

pub field_lines : (fields : List Field) → All IsClear fields → list_all is_line (map text_of fields) ≡ true
field_lines [] clear = refl
field_lines (f ∷ fields) clear = and_from _ _ (field_line f (All-head IsClear f fields clear)) (field_lines fields (All-tail IsClear f fields clear))

field_is : (f : Field) → IsClear f → IsField (line_of f)
field_is f clear = record {
  name = clear.name;
  raw = AllPass-from_list_all is_value_byte (32 ∷ f.value) (list_all-from_AllPass is_value_byte f.value clear.value);
}

pub fields_are : (fields : List Field) → All IsClear fields → All IsField (map line_of fields)
fields_are fields clear = All-map IsField line_of fields (All-weaker IsClear (λ f. IsField (line_of f)) field_is fields clear)

trimmed_raw : (value : List ℕ) → trim_ows value ≡ value → trim_ows (32 ∷ value) ≡ value
unfolding trim_ows
trimmed_raw value h = h

-- the fields of the lines are the fields, in lower case
pub fields_read : (fields : List Field) → All IsClear fields → map field_of (map line_of fields) ≡ map lower fields
fields_read [] clear = refl
fields_read (f ∷ fields) clear =
    let value : trim_ows (32 ∷ f.value) ≡ f.value = trimmed_raw f.value (All-head IsClear f fields clear).trimmed in
    let one : field_of (line_of f) ≡ lower f = ap (λ v. kept_field (f.name, v)) value in
    let rest : map field_of (map line_of fields) ≡ map lower fields = fields_read fields (All-tail IsClear f fields clear) in
    ap (λ x. x ∷ map field_of (map line_of fields)) one ∙ ap (λ l. lower f ∷ l) rest

-- ---- lengths

-- a length that was written is counted
pub counted_one : (max n : ℕ) → n ≤ max → n < 10 ^ 19 → counted max (decimal n ∷ []) ≡ Ok (Sized n)
counted_one max n within few =
    let number : number_after 0 (decimal n) ≡ n = digits_value-decimal digits_model n (omega arith) in
    let some : nat_lt 0 (length (decimal n)) ≡ true = lt-ltb 0 (length (decimal n)) (decimal_nonempty n (omega arith)) in
    let short : nat_le (length (decimal n)) 19 ≡ true = le-leb (length (decimal n)) 19 (length-decimal-le 19 n (omega arith) few (omega arith)) in
    let digits : list_all is_ascii_digit (decimal n) ≡ true = decimal_digits n (omega arith) in
    let room : nat_lt max n ≡ false = le-ltb max n within in
    rw (some, short, digits, number, room) refl

-- ---- frames

no_blanks : (text : List ℕ) → is_line text ≡ true → (rest : List ℕ) → blanks (text ++ rest) ≡ 0
no_blanks [] line rest = cc
no_blanks (b ∷ text) line rest = cond-false _ _ _ (not-true (is_blank b) (and_parts _ _ line).0)

sized_all : (head : Head) (body : List ℕ) (ended : Bool) → Given (record { head = head; body = body }) [] ≡ sized (record { head = head; body = [] }) (length body) body ended
sized_all head body ended =
    let enough : nat_le (length body) (length body) ≡ true = le-leb (length body) (length body) (omega arith) in
    let whole : take (length body) body ≡ body = take_all (length body) body (omega arith) in
    let none : drop (length body) body ≡ [] = drop_all (length body) body (omega arith) in
    rw (enough, whole, none) refl

-- a head within the limits, and a body of the length that it tells, are that message
pub frame_of : (kind : Kind) (max place : ℕ) (start : List ℕ) (texts : List (List ℕ)) (body : List ℕ) (ended : Bool) (head : Head)
    → is_line start ≡ true → list_all is_line texts ≡ true → length (head_text start texts) ≤ 16384 → length texts ≤ 64
    → SaysHead kind (head_text start texts) (Some head) → length_of max head ≡ Ok (Sized (length body))
    → IsFrame kind max place (head_text start texts ++ body) ended (Given (record { head = head; body = body }) [])
frame_of kind max place start texts body ended head line lines_are size few says tells =
    let text = head_text start texts in
    let n = length text in
    let whole : found of_head (text ++ body) ≡ finds.Whole n = whole_stays of_head text body n (head_found start texts line lines_are size few) in
    let none : blanks text ≡ 0 = ap blanks (append_assoc (start ++ line_end) (ended_lines texts) line_end ∙ append_assoc start line_end (ended_lines texts ++ line_end)) ∙ no_blanks start line (line_end ++ (ended_lines texts ++ line_end)) in
    let front : take n (text ++ body) ≡ text = take_at text body n refl in
    let back : drop n (text ++ body) ≡ body = drop_at text body n refl in
    let frame = Given (record { head = head; body = body }) [] in
    let here : Ended (finds.Whole n) kind max place (text ++ body) ended frame = rw (front, back, none) (Some head, says, rw tells (sized_all head body ended)) in
    subst (λ f. Ended f kind max place (text ++ body) ended frame) (sym whole) here
