-- How long a head makes the body (RFC 9112 section 6.3).
use Rattle.std.specs.Prelude.{ℕ, Bool, not, ◌&&◌, ◌||◌, ◌==◌, nat_lt, nat_le, List, [], ◌∷◌, length, map, filter, if◌then◌else◌, codes, Option, Some, None, Result, Ok, Err}
use Rattle.std.specs.List.{list_all}
use Rattle.std.specs.Char.{to_ascii_lowercase, is_ascii_digit}
use Rattle.ocm_texts.specs.Decimal.{number_after}
use Rattle.ocm_http_heads.specs.Heads.{is_same}
use Rattle.ocm_http_heads.specs.declared.fields.Field.{Field}
use Rattle.ocm_http_heads.specs.declared.lengths.Length.{Length}
use Rattle.ocm_http_heads.specs.declared.lengths.Length.TheVariants.{Sized, Chunked, ToEnd}
use Rattle.ocm_http_heads.specs.declared.lengths.LengthFault.{LengthFault}
use Rattle.ocm_http_heads.specs.declared.lengths.LengthFault.TheVariants.{BothLengths, BadLength, BodyTooLong}

-- the values of the fields with a name, in their order
abbrev pub values : List ℕ → List Field → List (List ℕ)
values name fields = map (λ f. f.value) (filter (λ f. is_same f.name name) fields)

-- the values, by the first field and the fields after it
abbrev pub from_first : List ℕ → Option (List ℕ × List Field) → List (List ℕ)
from_first name None = []
from_first name (Some first) = first.0 ∷ values name first.1

-- whether a field with the name has this value
abbrev pub is_unless : List ℕ → List ℕ → Field → Bool
is_unless name value f = not (is_same f.name name) || is_same value f.value

-- a coding that is or isn't the only one
abbrev pub coded_if : List ℕ → Bool → Result Length LengthFault
coded_if value alone = if alone && is_same (map to_ascii_lowercase value) (codes "chunked") then Ok Chunked else Err BadLength

-- the one transfer coding that is taken is `chunked` alone (RFC 9112 section 6.1)
abbrev pub coded : List (List ℕ) → Result Length LengthFault
coded [] = Err BadLength
coded (value ∷ others) = coded_if value (length others == 0)

-- whether a value is a length: 1 to 19 digits (RFC 9110 section 8.6)
abbrev pub is_length : List ℕ → Bool
is_length value = nat_lt 0 (length value) && nat_le (length value) 19 && list_all is_ascii_digit value

-- a length that is the same, or isn't, in each field that tells it
abbrev pub counted_if : ℕ → List ℕ → Bool → Result Length LengthFault
counted_if max value same =
    if not (is_length value && same) then Err BadLength
    else if nat_lt max (number_after 0 value) then Err BodyTooLong
    else Ok (Sized (number_after 0 value))

-- lengths: each is the same text, that of a length of at most max
abbrev pub counted : ℕ → List (List ℕ) → Result Length LengthFault
counted max [] = Err BadLength
counted max (value ∷ others) = counted_if max value (list_all (is_same value) others)

-- the length that the two fields tell, in the order in which it is tested; none where neither is there
abbrev pub told : ℕ → List (List ℕ) → List (List ℕ) → Option (Result Length LengthFault)
told max [] [] = None
told max [] (value ∷ values) = Some (counted max (value ∷ values))
told max (coding ∷ codings) [] = Some (coded (coding ∷ codings))
told max (coding ∷ codings) (value ∷ values) = Some (Err BothLengths)

-- the length that fields tell
abbrev pub told_by : ℕ → List Field → Option (Result Length LengthFault)
told_by max fields = told max (values (codes "transfer-encoding") fields) (values (codes "content-length") fields)

-- what is told, or this
abbrev pub or_else : Option (Result Length LengthFault) → Length → Result Length LengthFault
or_else None length = Ok length
or_else (Some read) length = read

-- the length of a request's body: without either field it has none
abbrev pub request_length : ℕ → List Field → Result Length LengthFault
request_length max fields = or_else (told_by max fields) (Sized 0)

-- no body, whatever is told, unless what is told has a fault
abbrev pub without_body : Option (Result Length LengthFault) → Result Length LengthFault
without_body (Some (Err fault)) = Err fault
without_body (Some (Ok length)) = Ok (Sized 0)
without_body None = Ok (Sized 0)

-- the length of a reply's body: with the status 204 or 304 it has none; else, without either field, it ends with
-- the input
abbrev pub reply_length : ℕ → ℕ → List Field → Result Length LengthFault
reply_length max status fields =
    if status == 204 || status == 304 then without_body (told_by max fields)
    else or_else (told_by max fields) ToEnd
