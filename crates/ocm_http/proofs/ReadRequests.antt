-- A written request is read back.
use Rattle.std.proofs.Common.{◌≡◌, ℕ, ◌^◌, ◌<◌, ◌≤◌, List, [], ◌∷◌, ◌++◌, length, map, Bool, true, false, cond, codes, Option, Some, None, IfSome, Ok, refl, sym, ap, ◌∙◌, subst, arith, append_assoc, append-nil, All, lit≤, IsTrue, IsUtf8, nat_lt}
use Rattle.std.specs.List.{list_all, list_any}
use Rattle.std.specs.Fmt.{decimal}
use Rattle.std.proofs.lemmas.Bool.{and_parts, and_from, ltb-true}
use Rattle.std.proofs.lemmas.List.{length-map}
use Rattle.std.proofs.lemmas.List.Folds.{list_all-append}
use Rattle.std.proofs.lemmas.List.Sums.{AllPass-from_list_all, list_all-from_AllPass}
use Rattle.std.proofs.lemmas.List.Elements.{All-nil, All-cons, All-append}
use Rattle.httparse.specs.Grammar.{crlf, print_version, print_request, RequestHead, IsRequestHead, IsToken, is_token, is_token_byte, is_uri_byte}
use Rattle.ocm_texts.specs.Hex.{AreBytes}
use Rattle.ocm_types.specs.Hosts.{is_host}
use Rattle.ocm_http_heads.specs.Heads.{is_same, is_closing, closes, field_of, SaysRequest}
use Rattle.ocm_http_heads.specs.Lengths.{told_by, counted, or_else, request_length}
use Rattle.ocm_http_heads.specs.declared.fields.Field.{Field}
use Rattle.ocm_http_heads.specs.declared.fields.Head.TheVariants.{Request}
use Rattle.ocm_http_heads.specs.declared.lengths.Length.TheVariants.{Sized}
use Rattle.ocm_http.specs.Frames.{Given, IsFrame}
use Rattle.ocm_http.specs.Written.{line_end, with_field, with_fields, with_credentials, with_depth, with_type, with_length, with_close, request_line, request_head, written_request}
use Rattle.ocm_http.specs.ReadBack.{lower, field, IsClear, credential_fields, depth_fields, type_fields, length_field, closing_field, request_fields, IsAsked, RequestIsReadBack}
use Rattle.ocm_http.specs.declared.messages.Kind.TheVariants.{Requests}
use Rattle.ocm_http.proofs.HeadLines.{is_line, is_inside, ended_lines, head_text}
use Rattle.ocm_http.proofs.Values.{all_pass, visible_clear, basic_clear, host_visible, decimal_visible}
use Rattle.ocm_http.proofs.WrittenHeads.{line_of, text_of, printed_lines, with_fields_is, with_fields-append, token_line, uri_inside, field_lines, fields_are, fields_read, counted_one, frame_of}

-- ---- the fields

-- the names are tokens
name_is : (name : List ℕ) → is_token name ≡ true → IsToken name
name_is name h = let parts = and_parts (nat_lt 0 (length name)) (list_all is_token_byte name) h in (ltb-true 0 (length name) parts.0, AllPass-from_list_all is_token_byte name parts.1)

host_clear : (host : List ℕ) → is_host host ≡ true → IsClear (field (codes "Host") host)
unfolding is_token_byte
host_clear host h = visible_clear (codes "Host") host (name_is (codes "Host") refl) (host_visible host h)

credentials_clear : (secret : Option (List ℕ)) → IfSome secret AreBytes → All IsClear (credential_fields secret)
unfolding is_token_byte
credentials_clear None h = All-nil IsClear
credentials_clear (Some secret) h = All-cons IsClear _ [] (basic_clear (codes "Authorization") secret (name_is (codes "Authorization") refl) h) (All-nil IsClear)

depth_clear : (lists : Bool) → All IsClear (depth_fields lists)
unfolding is_token_byte
depth_clear true = All-cons IsClear _ [] (visible_clear (codes "Depth") (codes "1") (name_is (codes "Depth") refl) refl) (All-nil IsClear)
depth_clear false = All-nil IsClear

type_clear : (sends : Bool) → All IsClear (type_fields sends)
unfolding is_token_byte
type_clear true = All-cons IsClear _ [] (visible_clear (codes "Content-Type") (codes "application/json") (name_is (codes "Content-Type") refl) refl) (All-nil IsClear)
type_clear false = All-nil IsClear

pub length_clear : (n : ℕ) → n < 2 ^ 64 → IsClear (length_field n)
unfolding is_token_byte
length_clear n h = visible_clear (codes "Content-Length") (decimal n) (name_is (codes "Content-Length") refl) (decimal_visible n h)

pub closing_clear : IsClear closing_field
unfolding is_token_byte
closing_clear = visible_clear (codes "Connection") (codes "close") (name_is (codes "Connection") refl) refl

fields_clear : (host method : List ℕ) (secret : Option (List ℕ)) (n : ℕ) → is_host host ≡ true → IfSome secret AreBytes → n < 2 ^ 64 → All IsClear (request_fields host method secret n)
fields_clear host method secret n is bytes few =
    All-cons IsClear _ _ (host_clear host is)
    (All-append IsClear _ _ (credentials_clear secret bytes)
    (All-append IsClear _ _ (depth_clear (is_same method (codes "PROPFIND")))
    (All-append IsClear _ _ (type_clear (is_same method (codes "POST")))
    (All-cons IsClear (length_field n) (closing_field ∷ []) (length_clear n few) (All-cons IsClear closing_field [] closing_clear (All-nil IsClear))))))

-- the fields, by what the method is
abbrev fields_by : List ℕ → Option (List ℕ) → Bool → Bool → ℕ → List Field
fields_by host secret lists sends n = field (codes "Host") host ∷ (credential_fields secret ++ (depth_fields lists ++ (type_fields sends ++ length_field n ∷ closing_field ∷ [])))

-- what they tell of the body, that they close, and how many they are
record Tells (max n : ℕ) (fields : List Field) : Type 0 where
  pub length_is : told_by max (map lower fields) ≡ Some (counted max (decimal n ∷ []))
  pub closing : list_any closes (map lower fields) ≡ true
  pub few : length fields ≤ 6

tells : (max n : ℕ) (host : List ℕ) (secret : Option (List ℕ)) (lists sends : Bool) → Tells max n (fields_by host secret lists sends n)
tells max n host None true true = record { length_is = refl; closing = refl; few = lit≤ tt }
tells max n host None true false = record { length_is = refl; closing = refl; few = lit≤ tt }
tells max n host None false true = record { length_is = refl; closing = refl; few = lit≤ tt }
tells max n host None false false = record { length_is = refl; closing = refl; few = lit≤ tt }
tells max n host (Some secret) true true = record { length_is = refl; closing = refl; few = lit≤ tt }
tells max n host (Some secret) true false = record { length_is = refl; closing = refl; few = lit≤ tt }
tells max n host (Some secret) false true = record { length_is = refl; closing = refl; few = lit≤ tt }
tells max n host (Some secret) false false = record { length_is = refl; closing = refl; few = lit≤ tt }

request_tells : (max n : ℕ) (host method : List ℕ) (secret : Option (List ℕ)) → Tells max n (request_fields host method secret n)
request_tells max n host method secret = tells max n host secret (is_same method (codes "PROPFIND")) (is_same method (codes "POST"))

-- ---- the head

-- a request's line
abbrev asked_line : List ℕ → List ℕ → List ℕ
asked_line method target = (method ++ 32 ∷ target) ++ 32 ∷ print_version 1

asks_in_line : (method target : List ℕ) → IsAsked method target → is_line (asked_line method target) ≡ true
asks_in_line method target asked =
    let inside : list_all is_inside (32 ∷ target) ≡ true = all_pass is_uri_byte is_inside uri_inside target (list_all-from_AllPass is_uri_byte target asked.is_target.1) in
    let rest : list_all is_inside (32 ∷ target ++ 32 ∷ print_version 1) ≡ true = list_all-append is_inside (32 ∷ target) (32 ∷ print_version 1) ∙ and_from _ _ inside refl in
    ap is_line (append_assoc method (32 ∷ target) (32 ∷ print_version 1)) ∙ token_line method (32 ∷ target ++ 32 ∷ print_version 1) asked.is_method rest

credentials_are : (text : List ℕ) (secret : Option (List ℕ)) → with_credentials text secret ≡ with_fields text (credential_fields secret)
credentials_are text None = refl
credentials_are text (Some secret) = refl

depth_is : (text : List ℕ) (lists : Bool) → cond lists (with_field text (codes "Depth") (codes "1")) text ≡ with_fields text (depth_fields lists)
depth_is text true = refl
depth_is text false = refl

type_is : (text : List ℕ) (sends : Bool) → cond sends (with_field text (codes "Content-Type") (codes "application/json")) text ≡ with_fields text (type_fields sends)
type_is text true = refl
type_is text false = refl

-- fields one after another
after_three : (text : List ℕ) (a b c d : List Field) → with_fields (with_fields (with_fields (with_fields text a) b) c) d ≡ with_fields text (a ++ (b ++ (c ++ d)))
after_three text a b c d =
    sym (with_fields-append text a (b ++ (c ++ d))
    ∙ (with_fields-append (with_fields text a) b (c ++ d)
    ∙ with_fields-append (with_fields (with_fields text a) b) c d))

lines_are : (host method target : List ℕ) (secret : Option (List ℕ)) (n : ℕ)
    → with_close (with_length (with_type (with_depth (with_credentials (request_line host method target) secret) method) method) n)
    ≡ with_fields (((method ++ codes " ") ++ target) ++ codes " HTTP/1.1" ++ line_end) (request_fields host method secret n)
lines_are host method target secret n =
    let start = ((method ++ codes " ") ++ target) ++ codes " HTTP/1.1" ++ line_end in
    let a : List ℕ = with_fields (request_line host method target) (credential_fields secret) in
    let b : List ℕ = with_fields a (depth_fields (is_same method (codes "PROPFIND"))) in
    let last = length_field n ∷ closing_field ∷ [] in
    let one : with_credentials (request_line host method target) secret ≡ a = credentials_are (request_line host method target) secret in
    let two : with_depth a method ≡ b = depth_is a (is_same method (codes "PROPFIND")) in
    let three : with_type b method ≡ with_fields b (type_fields (is_same method (codes "POST"))) = type_is b (is_same method (codes "POST")) in
    ap (λ t. with_fields (with_type (with_depth t method) method) last) one
    ∙ (ap (λ t. with_fields (with_type t method) last) two
    ∙ (ap (λ t. with_fields t last) three
    ∙ after_three (request_line host method target) (credential_fields secret) (depth_fields (is_same method (codes "PROPFIND"))) (type_fields (is_same method (codes "POST"))) last))

start_is : (method target : List ℕ) → ((method ++ codes " ") ++ target) ++ codes " HTTP/1.1" ++ line_end ≡ asked_line method target ++ line_end
start_is method target = ap (λ l. (l ++ codes " HTTP/1.1") ++ line_end) (append_assoc method (codes " ") target)

-- a written head in lines
pub head_is : (host method target : List ℕ) (secret : Option (List ℕ)) (n : ℕ) → request_head host method target secret n ≡ head_text (asked_line method target) (map text_of (request_fields host method secret n))
head_is host method target secret n =
    ap (λ l. l ++ line_end)
    (lines_are host method target secret n
    ∙ (ap (λ l. with_fields l (request_fields host method secret n)) (start_is method target)
    ∙ with_fields_is (asked_line method target ++ line_end) (request_fields host method secret n)))

-- the head of the grammar
abbrev tree : List ℕ → List ℕ → List Field → RequestHead
tree method target fields = record { blank = []; method = method; target = target; minor = 1; line_end = crlf; fields = map line_of fields; last = crlf }

printed : (method target : List ℕ) (fields : List Field) → head_text (asked_line method target) (map text_of fields) ≡ print_request (tree method target fields) ++ []
unfolding print_request
printed method target fields =
    append_assoc (asked_line method target ++ line_end) (ended_lines (map text_of fields)) line_end
    ∙ (ap (λ l. (asked_line method target ++ line_end) ++ (l ++ line_end)) (sym (printed_lines fields))
    ∙ sym (append-nil _))

says : (method target : List ℕ) (fields : List Field) → IsAsked method target → IsUtf8 target → All IsClear fields → list_any closes (map lower fields) ≡ true
    → SaysRequest (head_text (asked_line method target) (map text_of fields)) (Some (Request method target true (map lower fields)))
says method target fields asked text_is clear closing =
    let is : IsRequestHead (tree method target fields) = record {
      method = asked.is_method;
      target = asked.is_target;
      target_text = text_is;
      minor = lit≤ tt;
      fields = fields_are fields clear;
    } in
    let read : map field_of (map line_of fields) ≡ map lower fields = fields_read fields clear in
    let same : Request method target true (map lower fields) ≡ Request method target (is_closing 1 (map field_of (map line_of fields))) (map field_of (map line_of fields)) = rw (read, closing) refl in
    (tree method target fields, (is, printed method target fields), same)

-- ---- the law

pub request_is_read_back : (host method target : List ℕ) (secret : Option (List ℕ)) (body : List ℕ) → IsTrue (is_host host) → IsUtf8 target → IfSome secret AreBytes
    → RequestIsReadBack host method target secret body (written_request host method target secret body)
request_is_read_back host method target secret body is text_is bytes max asked size kept place ended =
    let n = length body in
    let fields = request_fields host method secret n in
    let text = head_text (asked_line method target) (map text_of fields) in
    let head = Request method target true (map lower fields) in
    let within : n ≤ max = kept.0 in
    let few : n < 10 ^ 19 = kept.1 in
    let clear : All IsClear fields = fields_clear host method secret n is bytes (omega arith) in
    let told = request_tells max n host method secret in
    let head_same : request_head host method target secret n ≡ text = head_is host method target secret n in
    let short : length text ≤ 16384 = subst (λ (l : List ℕ). length l ≤ 16384) head_same size in
    let count : length (map text_of fields) ≤ 64 = omega (arith, length-map fields text_of, told.few) in
    let length_is : request_length max (map lower fields) ≡ Ok (Sized n) = ap (λ t. or_else t (Sized 0)) told.length_is ∙ counted_one max n within few in
    subst (λ (l : List ℕ). IsFrame Requests max place (l ++ body) ended (Given (record { head = head; body = body }) [])) (sym head_same)
    (frame_of Requests max place (asked_line method target) (map text_of fields) body ended head (asks_in_line method target asked) (field_lines fields clear) short count (says method target fields asked text_is clear told.closing) length_is)
