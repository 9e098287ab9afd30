-- A written reply is read back.
use Rattle.std.proofs.Common.{◌≡◌, ℕ, ◌+◌, ◌/◌, ◌%◌, ◌^◌, ◌<◌, ◌≤◌, List, [], ◌∷◌, ◌++◌, length, map, Bool, true, false, cond, ◌||◌, nat_eq, nat_le, codes, Option, Some, None, Result, Ok, refl, sym, ap, ◌∙◌, subst, arith, append_assoc, append-nil, All, lit≤, true≢false}
use Rattle.std.specs.List.{list_all, filter}
use Rattle.std.specs.Fmt.{decimal, digits}
use Rattle.std.specs.Char.{is_ascii_digit}
use Rattle.std.specs.Str.Parse.{digits_value}
use Rattle.std.proofs.lemmas.Bool.{and_from, and_right, or_parts, not_from_false, lt-leb}
use Rattle.std.proofs.lemmas.List.Folds.{list_all-append}
use Rattle.std.proofs.lemmas.List.Sums.{AllPass-from_list_all}
use Rattle.std.proofs.lemmas.List.Elements.{All-nil, All-cons, All-append, All-head, All-tail, All-weaker}
use Rattle.std.proofs.lemmas.Fmt.{decimal_digit, decimal_step, decimal_is_IsNumeral}
use Rattle.httparse.specs.Grammar.{crlf, print_response, ResponseHead, IsResponseHead, is_value_byte}
use Rattle.http.specs.StatusCode.{reason_phrase}
use Rattle.base64.proofs.Tables.{all_below_at}
use Rattle.ocm_http_heads.specs.Endings.{lines}
use Rattle.ocm_http_heads.specs.Heads.{is_same, is_final, field_of, SaysReply}
use Rattle.ocm_http_heads.specs.Lengths.{values, told, told_by, counted, or_else, without_body, reply_length}
use Rattle.ocm_http_heads.specs.declared.fields.Field.{Field}
use Rattle.ocm_http_heads.specs.declared.fields.Head.TheVariants.{Reply}
use Rattle.ocm_http_heads.specs.declared.lengths.Length.{Length}
use Rattle.ocm_http_heads.specs.declared.lengths.Length.TheVariants.{Sized, ToEnd}
use Rattle.ocm_http_heads.specs.declared.lengths.LengthFault.{LengthFault}
use Rattle.ocm_http_heads.proofs.Heads.{lines-append}
use Rattle.ocm_http.specs.Frames.{Given, IsFrame}
use Rattle.ocm_http.specs.Written.{line_end, with_fields, with_length, with_length_unless_empty, with_close_if, phrase_of, status_line, reply_head, written_reply}
use Rattle.ocm_http.specs.ReadBack.{lower, IsClear, IsGiven, length_field, closing_field, reply_fields, has_no_body, ReplyIsReadBack, FixedAreWritten}
use Rattle.ocm_http.specs.declared.messages.Kind.TheVariants.{Replies}
use Rattle.ocm_http.specs.declared.writing.Fixed.TheVariants.{Bad, NoMemory}
use Rattle.ocm_http.proofs.HeadLines.{is_line, is_inside, ended_lines, head_text}
use Rattle.ocm_http.proofs.Values.{all_pass, decimal_digits}
use Rattle.ocm_http.proofs.WrittenHeads.{line_of, text_of, printed_lines, with_fields_is, with_fields-append, values_inside, digit_inside, field_lines, fields_are, fields_read, counted_one, frame_of}
use Rattle.ocm_http.proofs.ReadRequests.{length_clear, closing_clear}

-- ---- the status and its phrase

three_digits : (status : ℕ) → 100 ≤ status → status < 1000 → length (decimal status) ≡ 3
three_digits status low high =
    let one : decimal (status / 10 / 10) ≡ (48 + status / 10 / 10) ∷ [] = decimal_digit (status / 10 / 10) (omega arith) in
    let two : decimal (status / 10) ≡ decimal (status / 10 / 10) ++ (48 + status / 10 % 10) ∷ [] = decimal_step (status / 10) (omega arith) (omega arith) in
    let three : decimal status ≡ decimal (status / 10) ++ (48 + status % 10) ∷ [] = decimal_step status (omega arith) (omega arith) in
    ap length (three ∙ ap (λ l. l ++ (48 + status % 10) ∷ []) (two ∙ ap (λ l. l ++ (48 + status / 10 % 10) ∷ []) one))

phrase_value : (status : ℕ) → status < 1000 → list_all is_value_byte (phrase_of (reason_phrase status)) ≡ true
phrase_value status high = all_below_at (λ s. list_all is_value_byte (phrase_of (reason_phrase s))) 1000 status refl high

final : (status : ℕ) → 200 ≤ status → is_final status ≡ true
final status low = not_from_false _ (and_right (nat_le 100 status) (nat_le status 199) (lt-leb status 199 (omega arith)))

-- ---- the fields

length_clear_unless : (empty : Bool) (n : ℕ) → n < 2 ^ 64 → All IsClear (cond empty [] (length_field n ∷ []))
length_clear_unless true n few = All-nil IsClear
length_clear_unless false n few = All-cons IsClear (length_field n) [] (length_clear n few) (All-nil IsClear)

closing_clear_if : (closing : Bool) → All IsClear (cond closing (closing_field ∷ []) [])
closing_clear_if true = All-cons IsClear closing_field [] closing_clear (All-nil IsClear)
closing_clear_if false = All-nil IsClear

fields_clear : (status : ℕ) (fields : List Field) (n : ℕ) (closing : Bool) → All IsGiven fields → n < 2 ^ 64 → All IsClear (reply_fields status fields n closing)
fields_clear status fields n closing given few =
    All-append IsClear fields _ (All-weaker IsGiven IsClear (λ f h. h.0) fields given)
    (All-append IsClear _ _ (length_clear_unless (nat_eq status 204) n few) (closing_clear_if closing))

-- fields with other names tell nothing
values_past : (name : List ℕ) (fields rest : List Field) → All (λ f. is_same (lower f).name name ≡ false) fields → values name (map lower (fields ++ rest)) ≡ values name (map lower rest)
values_past name [] rest others = refl
values_past name (f ∷ fields) rest others =
    let others_of : Field → Type 0 = λ g. is_same (lower g).name name ≡ false in
    let named = λ (g : Field). is_same g.name name in
    let more = filter named (map lower (fields ++ rest)) in
    ap (λ t. map (λ (g : Field). g.value) (cond t (lower f ∷ more) more)) (All-head others_of f fields others)
    ∙ values_past name fields rest (All-tail others_of f fields others)

other_codings : (f : Field) → IsGiven f → is_same (lower f).name (codes "transfer-encoding") ≡ false
other_codings f h = (or_parts (is_same (lower f).name (codes "content-length")) (is_same (lower f).name (codes "transfer-encoding")) h.1).1

other_lengths : (f : Field) → IsGiven f → is_same (lower f).name (codes "content-length") ≡ false
other_lengths f h = (or_parts (is_same (lower f).name (codes "content-length")) (is_same (lower f).name (codes "transfer-encoding")) h.1).0

told_past : (max : ℕ) (fields rest : List Field) → All IsGiven fields → told_by max (map lower (fields ++ rest)) ≡ told_by max (map lower rest)
told_past max fields rest given =
    let codings = values_past (codes "transfer-encoding") fields rest (All-weaker IsGiven (λ f. is_same (lower f).name (codes "transfer-encoding") ≡ false) other_codings fields given) in
    let lengths = values_past (codes "content-length") fields rest (All-weaker IsGiven (λ f. is_same (lower f).name (codes "content-length") ≡ false) other_lengths fields given) in
    λ i. told max (codings i) (lengths i)

told_after : (max n : ℕ) (empty closing : Bool) → told_by max (map lower (cond empty [] (length_field n ∷ []) ++ cond closing (closing_field ∷ []) [])) ≡ cond empty None (Some (counted max (decimal n ∷ [])))
told_after max n true true = refl
told_after max n true false = refl
told_after max n false true = refl
told_after max n false false = refl

length_by : (empty unchanged : Bool) (n : ℕ) (said : Option (Result Length LengthFault)) → said ≡ cond empty None (Some (Ok (Sized n))) → (empty || unchanged ≡ true → n ≡ 0)
    → cond (empty || unchanged) (without_body said) (or_else said ToEnd) ≡ Ok (Sized n)
length_by true unchanged n said e zero = ap without_body e ∙ ap (λ k. Ok (Sized k)) (sym (zero refl))
length_by false true n said e zero = ap without_body e ∙ ap (λ k. Ok (Sized k)) (sym (zero refl))
length_by false false n said e zero = ap (λ s. or_else s ToEnd) e

length_is : (max status n : ℕ) (fields : List Field) (closing : Bool) → All IsGiven fields → n ≤ max → n < 10 ^ 19 → (has_no_body status ≡ true → n ≡ 0)
    → reply_length max status (map lower (reply_fields status fields n closing)) ≡ Ok (Sized n)
length_is max status n fields closing given within few zero =
    let rest : List Field = cond (nat_eq status 204) [] (length_field n ∷ []) ++ cond closing (closing_field ∷ []) [] in
    let said : told_by max (map lower (fields ++ rest)) ≡ cond (nat_eq status 204) None (Some (Ok (Sized n))) =
    told_past max fields rest given
    ∙ (told_after max n (nat_eq status 204) closing
    ∙ ap (λ c. cond (nat_eq status 204) None (Some c)) (counted_one max n within few)) in
    length_by (nat_eq status 204) (nat_eq status 304) n (told_by max (map lower (fields ++ rest))) said zero

-- ---- the head

abbrev replied_line : ℕ → List ℕ
replied_line status = (codes "HTTP/1.1 " ++ decimal status) ++ 32 ∷ phrase_of (reason_phrase status)

replies_in_line : (status : ℕ) → status < 1000 → is_line (replied_line status) ≡ true
replies_in_line status high =
    let digits : list_all is_inside (decimal status) ≡ true = all_pass is_ascii_digit is_inside digit_inside (decimal status) (decimal_digits status (omega arith)) in
    let phrase : list_all is_inside (phrase_of (reason_phrase status)) ≡ true = values_inside (phrase_of (reason_phrase status)) (AllPass-from_list_all is_value_byte (phrase_of (reason_phrase status)) (phrase_value status high)) in
    let rest : list_all is_inside (decimal status ++ 32 ∷ phrase_of (reason_phrase status)) ≡ true = list_all-append is_inside (decimal status) (32 ∷ phrase_of (reason_phrase status)) ∙ and_from _ _ digits phrase in
    rest

length_lines : (text : List ℕ) (n : ℕ) (empty : Bool) → cond empty text (with_length text n) ≡ with_fields text (cond empty [] (length_field n ∷ []))
length_lines text n true = refl
length_lines text n false = refl

closing_lines : (text : List ℕ) (closing : Bool) → with_close_if text closing ≡ with_fields text (cond closing (closing_field ∷ []) [])
closing_lines text true = refl
closing_lines text false = refl

lines_are : (text : List ℕ) (status : ℕ) (fields : List Field) (n : ℕ) (closing : Bool) → with_close_if (with_length_unless_empty (with_fields text fields) status n) closing ≡ with_fields text (reply_fields status fields n closing)
lines_are text status fields n closing =
    let lengths : List Field = cond (nat_eq status 204) [] (length_field n ∷ []) in
    let closes : List Field = cond closing (closing_field ∷ []) [] in
    ap (λ t. with_close_if t closing) (length_lines (with_fields text fields) n (nat_eq status 204))
    ∙ (closing_lines (with_fields (with_fields text fields) lengths) closing
    ∙ sym (with_fields-append text fields (lengths ++ closes) ∙ with_fields-append (with_fields text fields) lengths closes))

start_is : (status : ℕ) → status_line status ≡ replied_line status ++ line_end
start_is status = ap (λ l. l ++ line_end) (append_assoc (codes "HTTP/1.1 " ++ decimal status) (codes " ") (phrase_of (reason_phrase status)))

pub head_is : (status : ℕ) (fields : List Field) (n : ℕ) (closing : Bool) → reply_head status fields n closing ≡ head_text (replied_line status) (map text_of (reply_fields status fields n closing))
head_is status fields n closing =
    ap (λ l. l ++ line_end)
    (lines_are (status_line status) status fields n closing
    ∙ (ap (λ l. with_fields l (reply_fields status fields n closing)) (start_is status)
    ∙ with_fields_is (replied_line status ++ line_end) (reply_fields status fields n closing)))

lines_of_texts : (texts : List (List ℕ)) → length texts ≤ lines (ended_lines texts)
lines_of_texts [] = lit≤ tt
lines_of_texts (line ∷ texts) =
    let rest : length texts ≤ lines (ended_lines texts) = lines_of_texts texts in
    let all : lines ((line ++ line_end) ++ ended_lines texts) ≡ lines (line ++ line_end) + lines (ended_lines texts) = lines-append (line ++ line_end) (ended_lines texts) in
    let one : lines (line ++ line_end) ≡ lines line + 1 = lines-append line line_end in
    omega arith

lines_of_head : (start : List ℕ) (texts : List (List ℕ)) → length texts + 2 ≤ lines (head_text start texts)
lines_of_head start texts =
    let front = (start ++ line_end) ++ ended_lines texts in
    let last : lines (front ++ line_end) ≡ lines front + 1 = lines-append front line_end in
    let all : lines front ≡ lines (start ++ line_end) + lines (ended_lines texts) = lines-append (start ++ line_end) (ended_lines texts) in
    let first : lines (start ++ line_end) ≡ lines start + 1 = lines-append start line_end in
    let rest : length texts ≤ lines (ended_lines texts) = lines_of_texts texts in
    omega arith

abbrev tree : ℕ → List Field → ResponseHead
tree status fields = record { blank = []; minor = 1; digits = decimal status; reason = Some (phrase_of (reason_phrase status)); line_end = crlf; fields = map line_of fields; last = crlf }

printed : (status : ℕ) (fields : List Field) → head_text (replied_line status) (map text_of fields) ≡ print_response (tree status fields) ++ []
unfolding print_response
printed status fields =
    append_assoc (replied_line status ++ line_end) (ended_lines (map text_of fields)) line_end
    ∙ (ap (λ l. (replied_line status ++ line_end) ++ (l ++ line_end)) (sym (printed_lines fields))
    ∙ sym (append-nil _))

says : (status : ℕ) (fields : List Field) → 200 ≤ status → status < 1000 → All IsClear fields
    → SaysReply (head_text (replied_line status) (map text_of fields)) (Some (Reply status (map lower fields)))
says status fields low high clear =
    let code : digits_value 10 (decimal status) ≡ status = (decimal_is_IsNumeral status (omega arith)).1 in
    let is : IsResponseHead (tree status fields) = record {
      minor = lit≤ tt;
      digits = (three_digits status (omega arith) high, AllPass-from_list_all is_ascii_digit (decimal status) (decimal_digits status (omega arith)));
      reason = AllPass-from_list_all is_value_byte (phrase_of (reason_phrase status)) (phrase_value status high);
      fields = fields_are fields clear;
    } in
    let read : map field_of (map line_of fields) ≡ map lower fields = fields_read fields clear in
    (tree status fields, (is, printed status fields), ap is_final code ∙ final status low, λ i. Reply (sym code i) (sym read i))

-- ---- the law

with_body : (status : ℕ) (fields : List Field) (body : List ℕ) (closing : Bool) → status < 1000 → ReplyIsReadBack status fields body false closing (written_reply status fields body false closing)
with_body status fields body closing high max low given written none limits kept place ended =
    let n = length body in
    let all = reply_fields status fields n closing in
    let text = head_text (replied_line status) (map text_of all) in
    let head = Reply status (map lower all) in
    let within : n ≤ max = kept.0 in
    let few : n < 10 ^ 19 = kept.1 in
    let clear : All IsClear all = fields_clear status fields n closing given (omega arith) in
    let head_same : reply_head status fields n closing ≡ text = head_is status fields n closing in
    let short : length text ≤ 16384 = subst (λ (l : List ℕ). length l ≤ 16384) head_same limits.0 in
    let line_count : lines text ≤ 66 = subst (λ (l : List ℕ). lines l ≤ 66) head_same limits.1 in
    let count : length (map text_of all) ≤ 64 = omega (arith, lines_of_head (replied_line status) (map text_of all)) in
    let tells : reply_length max status (map lower all) ≡ Ok (Sized n) = length_is max status n fields closing given within few (λ h. ap length (none h)) in
    subst (λ (l : List ℕ). IsFrame Replies max place (l ++ body) ended (Given (record { head = head; body = body }) [])) (sym head_same)
    (frame_of Replies max place (replied_line status) (map text_of all) body ended head (replies_in_line status high) (field_lines all clear) short count (says status all low high clear) tells)

pub reply_is_read_back : (status : ℕ) (fields : List Field) (body : List ℕ) (bodyless closing : Bool) → status < 1000
    → ReplyIsReadBack status fields body bodyless closing (written_reply status fields body bodyless closing)
reply_is_read_back status fields body true closing high = λ max low given written. absurd (true≢false written)
reply_is_read_back status fields body false closing high = with_body status fields body closing high

-- ---- the fixed replies

pub fixed_are_written : FixedAreWritten
unfolding digits
fixed_are_written Bad = refl
fixed_are_written NoMemory = refl
