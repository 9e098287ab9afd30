-- Messages as they are written (RFC 9112 sections 3, 4 and 5).
use Rattle.std.specs.Prelude.{ℕ, Bool, ◌==◌, List, [], ◌∷◌, ◌++◌, length, if◌then◌else◌, codes, Option, Some, None}
use Rattle.std.specs.Fmt.{decimal}
use Rattle.base64.specs.GeneralPurpose.{encode_of}
use Rattle.base64.specs.Engines.{standard}
use Rattle.http.specs.StatusCode.{reason_phrase}
use Rattle.ocm_http_heads.specs.Heads.{is_same}
use Rattle.ocm_http_heads.specs.declared.fields.Field.{Field}
use Rattle.ocm_http.specs.declared.writing.Fixed.{Fixed}
use Rattle.ocm_http.specs.declared.writing.Fixed.TheVariants.{Bad, NoMemory}

-- the end of a line
abbrev pub line_end : List ℕ
line_end = 13 ∷ 10 ∷ []

-- a text and then a field's line
abbrev pub with_field : List ℕ → List ℕ → List ℕ → List ℕ
with_field text name value = text ++ name ++ codes ": " ++ value ++ line_end

-- a text and then the lines of fields
abbrev pub with_fields : List ℕ → List Field → List ℕ
with_fields text [] = text
with_fields text (f ∷ fields) = with_fields (with_field text f.name f.value) fields

-- basic credentials of a secret as the user's name, with no password (RFC 7617)
abbrev pub basic : List ℕ → List ℕ
basic secret = codes "Basic " ++ encode_of standard (secret ++ codes ":")

abbrev pub with_credentials : List ℕ → Option (List ℕ) → List ℕ
with_credentials text None = text
with_credentials text (Some secret) = with_field text (codes "Authorization") (basic secret)

-- the depth of a PROPFIND, and the type of what is sent by POST
abbrev pub with_depth : List ℕ → List ℕ → List ℕ
with_depth text method = if is_same method (codes "PROPFIND") then with_field text (codes "Depth") (codes "1") else text

abbrev pub with_type : List ℕ → List ℕ → List ℕ
with_type text method = if is_same method (codes "POST") then with_field text (codes "Content-Type") (codes "application/json") else text

-- the length of a body
abbrev pub with_length : List ℕ → ℕ → List ℕ
with_length text n = with_field text (codes "Content-Length") (decimal n)

abbrev pub with_close : List ℕ → List ℕ
with_close text = with_field text (codes "Connection") (codes "close")

-- the first line of a request, and its host
abbrev pub request_line : List ℕ → List ℕ → List ℕ → List ℕ
request_line host method target = with_field (method ++ codes " " ++ target ++ codes " HTTP/1.1" ++ line_end) (codes "Host") host

-- a request's head: its line, its host, credentials where there are some, what its method wants, the length of a body of
-- so many bytes, that the connection closes, and an empty line
abbrev pub request_head : List ℕ → List ℕ → List ℕ → Option (List ℕ) → ℕ → List ℕ
request_head host method target secret n =
    with_close (with_length (with_type (with_depth (with_credentials (request_line host method target) secret) method) method) n) ++ line_end

-- a request: its head and its body
abbrev pub written_request : List ℕ → List ℕ → List ℕ → Option (List ℕ) → List ℕ → List ℕ
written_request host method target secret body = request_head host method target secret (length body) ++ body

-- the phrase of a status
abbrev pub phrase_of : Option (List ℕ) → List ℕ
phrase_of None = []
phrase_of (Some phrase) = phrase

-- the first line of a reply
abbrev pub status_line : ℕ → List ℕ
status_line status = codes "HTTP/1.1 " ++ decimal status ++ codes " " ++ phrase_of (reason_phrase status) ++ line_end

-- the body's length, but for the status 204
abbrev pub with_length_unless_empty : List ℕ → ℕ → ℕ → List ℕ
with_length_unless_empty text status n = if status == 204 then text else with_length text n

abbrev pub with_close_if : List ℕ → Bool → List ℕ
with_close_if text closing = if closing then with_close text else text

-- a reply's head: its line, its fields, the length of a body of so many bytes, whether the connection closes, and an empty
-- line
abbrev pub reply_head : ℕ → List Field → ℕ → Bool → List ℕ
reply_head status fields n closing =
    with_close_if (with_length_unless_empty (with_fields (status_line status) fields) status n) closing ++ line_end

-- a reply: its head and its body, which is left away where it answers a HEAD
abbrev pub written_reply : ℕ → List Field → List ℕ → Bool → Bool → List ℕ
written_reply status fields body bodyless closing = reply_head status fields (length body) closing ++ (if bodyless then [] else body)

-- what ends a reply that has no body and closes
abbrev pub closed_without_body : List ℕ
closed_without_body = line_end ++ codes "Content-Length: 0" ++ line_end ++ codes "Connection: close" ++ line_end ++ line_end

-- the fixed replies, each of which closes
abbrev pub fixed : Fixed → List ℕ
fixed Bad = codes "HTTP/1.1 400 Bad Request" ++ closed_without_body
fixed NoMemory = codes "HTTP/1.1 500 Internal Server Error" ++ closed_without_body
