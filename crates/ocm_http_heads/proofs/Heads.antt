-- A head that is the whole of a text, and how many lines it has.
use Rattle.std.proofs.Common.{◌≡◌, ℕ, ◌+◌, ◌<◌, ◌≤◌, List, [], ◌∷◌, ◌++◌, length, drop, map, sym, ap, ◌∙◌, subst, arith, length-append, append-nil}
use Rattle.std.specs.List.{flat_map}
use Rattle.std.proofs.lemmas.List.{drop_all}
use Rattle.httparse.specs.Grammar.{Field, LineEnd, crlf, lf, print_end, print_field, print_section, RequestHead, ReadsRequest, print_request, ResponseHead, ReadsResponse, print_response}
use Rattle.httparse.specs.Borrowed.{HoldsRequest, HoldsResponse, header_parts}
use Rattle.httparse.specs.declared.borrowed.Header.{Header}
use Rattle.httparse.specs.declared.borrowed.Request.{Request}
use Rattle.httparse.specs.declared.borrowed.Response.{Response}
use Rattle.httparse.specs.Spans.{name_and_value}
use Rattle.httparse.proofs.GrammarLemmas.{request_unique, response_unique}
use Rattle.ocm_http_heads.specs.Heads.{kept_field, field_of}
use Rattle.ocm_http_heads.specs.Endings.{lines}
use mathlib.Core.List.{map-map}

-- ---- lines

pub lines-append : (a b : List ℕ) → lines (a ++ b) ≡ lines a + lines b
lines-append [] b = omega arith
lines-append (x ∷ a) b =
    let rest : lines (a ++ b) ≡ lines a + lines b = lines-append a b in
    omega arith

line_of_end : (e : LineEnd) → 1 ≤ lines (print_end e)
line_of_end crlf = omega arith
line_of_end lf = omega arith

line_of_field : (f : Field) → 1 ≤ lines (print_field f)
line_of_field f =
    let last : 1 ≤ lines (print_end f.end) = line_of_end f.end in
    let all : lines (print_field f) ≡ lines (f.name ++ 58 ∷ f.raw) + lines (print_end f.end) = lines-append (f.name ++ 58 ∷ f.raw) (print_end f.end) in
    omega arith

lines_of_fields : (fields : List Field) → length fields ≤ lines (flat_map print_field fields)
lines_of_fields [] = omega arith
lines_of_fields (f ∷ fields) =
    let one : 1 ≤ lines (print_field f) = line_of_field f in
    let rest : length fields ≤ lines (flat_map print_field fields) = lines_of_fields fields in
    let all : lines (print_field f ++ flat_map print_field fields) ≡ lines (print_field f) + lines (flat_map print_field fields) = lines-append (print_field f) (flat_map print_field fields) in
    omega arith

lines_of_section : (front : List ℕ) (fields : List Field) (last : LineEnd) → length fields ≤ lines (front ++ print_section fields last)
lines_of_section front fields last =
    let rest : length fields ≤ lines (flat_map print_field fields) = lines_of_fields fields in
    let section : lines (print_section fields last) ≡ lines (flat_map print_field fields) + lines (print_end last) = lines-append (flat_map print_field fields) (print_end last) in
    let all : lines (front ++ print_section fields last) ≡ lines front + lines (print_section fields last) = lines-append front (print_section fields last) in
    omega arith

lines_of_request : (h : RequestHead) → length h.fields ≤ lines (print_request h)
unfolding print_request
lines_of_request h = lines_of_section _ h.fields h.last

lines_of_response : (h : ResponseHead) → length h.fields ≤ lines (print_response h)
unfolding print_response
lines_of_response h = lines_of_section _ h.fields h.last

-- a request head in a text of at most 66 lines has at most 66 fields
pub few_in_request : (text : List ℕ) (h : RequestHead) → lines text ≤ 66 → ReadsRequest text h [] → 66 < length h.fields → ⊥
few_in_request text h few reads many =
    let same : lines text ≡ lines (print_request h) = ap lines (reads.1 ∙ append-nil _) in
    let fields : length h.fields ≤ lines (print_request h) = lines_of_request h in
    omega arith

pub few_in_response : (text : List ℕ) (h : ResponseHead) → lines text ≤ 66 → ReadsResponse text h [] → 66 < length h.fields → ⊥
few_in_response text h few reads many =
    let same : lines text ≡ lines (print_response h) = ap lines (reads.1 ∙ append-nil _) in
    let fields : length h.fields ≤ lines (print_response h) = lines_of_response h in
    omega arith

-- ---- the whole of a text

pub request_not_whole : (buf : List ℕ) (len : ℕ) (r : Request) (h k : RequestHead) → HoldsRequest buf len r h → (len ≡ length buf → ⊥) → ReadsRequest buf k [] → ⊥
request_not_whole buf len r h k holds differs whole =
    let rest : drop len buf ≡ [] = (request_unique buf h k (drop len buf) [] holds.reads whole).1 in
    let all : buf ≡ print_request h ++ [] = holds.reads.1 ∙ ap (λ (l : List ℕ). print_request h ++ l) rest in
    let count : length buf ≡ length (print_request h) + 0 = ap length all ∙ length-append (print_request h) [] in
    let size = holds.len_is in
    differs (omega arith)

pub request_whole : (buf : List ℕ) (len : ℕ) (r : Request) (h : RequestHead) → HoldsRequest buf len r h → len ≡ length buf → ReadsRequest buf h []
request_whole buf len r h holds same = subst (λ (l : List ℕ). ReadsRequest buf h l) (drop_all len buf (omega (arith, same))) holds.reads

pub response_not_whole : (buf : List ℕ) (len : ℕ) (r : Response) (h k : ResponseHead) → HoldsResponse buf len r h → (len ≡ length buf → ⊥) → ReadsResponse buf k [] → ⊥
response_not_whole buf len r h k holds differs whole =
    let rest : drop len buf ≡ [] = (response_unique buf h k (drop len buf) [] holds.reads whole).1 in
    let all : buf ≡ print_response h ++ [] = holds.reads.1 ∙ ap (λ (l : List ℕ). print_response h ++ l) rest in
    let count : length buf ≡ length (print_response h) + 0 = ap length all ∙ length-append (print_response h) [] in
    let size = holds.len_is in
    differs (omega arith)

pub response_whole : (buf : List ℕ) (len : ℕ) (r : Response) (h : ResponseHead) → HoldsResponse buf len r h → len ≡ length buf → ReadsResponse buf h []
response_whole buf len r h holds same = subst (λ (l : List ℕ). ReadsResponse buf h l) (drop_all len buf (omega (arith, same))) holds.reads

-- the headers that were read, as they are kept, are the head's fields as they are kept
pub kept_all : (headers : List Header) (fields : List Field) → map header_parts headers ≡ map name_and_value fields → map (λ h. kept_field (header_parts h)) headers ≡ map field_of fields
kept_all headers fields same = sym (map-map kept_field header_parts headers) ∙ (ap (map kept_field) same ∙ map-map kept_field name_and_value fields)
