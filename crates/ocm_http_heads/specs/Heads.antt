-- What a head says (RFC 9112 sections 2 to 5 and 9.6), over the grammar that httparse reads.
use Rattle.std.specs.Prelude.{◌≡◌, ◌<◌, ℕ, Bool, true, not, ◌&&◌, ◌||◌, ◌==◌, nat_eq, nat_le, List, [], length, map, take, drop, codes, Option, Some, None}
use Rattle.std.specs.List.{list_any, list_all, slice_split}
use Rattle.std.specs.Char.{to_ascii_lowercase}
use Rattle.std.specs.Cmp.Lexicographic.{pointwise}
use Rattle.httparse.specs.Grammar.{Field as Line, field_value, skip_ows, is_ows, RequestHead, ReadsRequest, ResponseHead, ReadsResponse, status_code}
use Rattle.ocm_http_heads.specs.declared.fields.Field.{Field}
use Rattle.ocm_http_heads.specs.declared.fields.Head.{Head}
use Rattle.ocm_http_heads.specs.declared.fields.Head.TheVariants.{Request, Reply}

-- whether two texts are the same
abbrev pub is_same : List ℕ → List ℕ → Bool
is_same = pointwise nat_eq

-- a name and a value as they are kept: the name in lower case (RFC 9110 section 5.1)
abbrev pub kept_field : List ℕ × List ℕ → Field
kept_field parts = record { name = map to_ascii_lowercase parts.0; value = parts.1 }

-- a field line as it is kept
abbrev pub field_of : Line → Field
field_of line = kept_field (line.name, field_value line)

-- whether a part of a list says `close`, in any case, with blanks around
abbrev pub is_close : List ℕ → Bool
is_close part =
    let word = skip_ows part in
    is_same (map to_ascii_lowercase (take 5 word)) (codes "close") && list_all is_ows (drop 5 word)

-- whether a byte parts a list
abbrev pub is_comma : ℕ → Bool
is_comma b = b == 44

-- whether a field is a `connection` field with the token `close` (RFC 9112 section 9.6)
abbrev pub closes : Field → Bool
closes f = is_same f.name (codes "connection") && list_any is_close (slice_split is_comma f.value)

-- whether a request of this minor version with these fields closes
abbrev pub is_closing : ℕ → List Field → Bool
is_closing minor fields = minor == 0 || list_any closes fields

-- the head that a request head of the grammar is
abbrev pub request_of : RequestHead → Head
request_of h = Request h.method h.target (is_closing h.minor (map field_of h.fields)) (map field_of h.fields)

-- the head that a response head of the grammar is
abbrev pub reply_of : ResponseHead → Head
reply_of h = Reply (status_code h) (map field_of h.fields)

-- what the text of a request's head says: the text is that head, to its end; none where it is no head
abbrev pub SaysRequest : List ℕ → Option Head → Type 0
SaysRequest text None = (h : RequestHead) → ¬ (ReadsRequest text h [])
SaysRequest text (Some head) = (h : RequestHead) × ReadsRequest text h [] × (head ≡ request_of h)

-- what is read where there is room for so many fields: the head, or none that has so few
abbrev pub SaysWithin : ℕ → List ℕ → Option Head → Type 0
SaysWithin most text None = (h : RequestHead) → ReadsRequest text h [] → most < length h.fields
SaysWithin most text (Some head) = SaysRequest text (Some head)

-- whether a status is final: those from 100 to 199 are not (RFC 9110 section 15.2)
abbrev pub is_final : ℕ → Bool
is_final status = not (nat_le 100 status && nat_le status 199)

-- what the text of a reply's head says: a head whose status is final, else none
abbrev pub SaysReply : List ℕ → Option Head → Type 0
SaysReply text None = (h : ResponseHead) → ReadsResponse text h [] → is_final (status_code h) ≡ true → ⊥
SaysReply text (Some head) = (h : ResponseHead) × ReadsResponse text h [] × (is_final (status_code h) ≡ true) × (head ≡ reply_of h)
