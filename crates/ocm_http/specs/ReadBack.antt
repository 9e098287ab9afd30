-- What is written is read back.
use Rattle.std.specs.Prelude.{◌≡◌, ℕ, ◌^◌, ◌<◌, ◌≤◌, Bool, false, true, ◌||◌, ◌==◌, List, [], ◌∷◌, ◌++◌, length, map, if◌then◌else◌, codes, Option, Some, None, IsTrue, IfSome, IsUtf8, All}
use Rattle.std.specs.List.{flat_map}
use Rattle.std.specs.Fmt.{decimal}
use Rattle.ocm_limits.specs.Limits.{most_head_bytes, most_head_lines}
use Rattle.httparse.specs.Grammar.{IsToken, AllPass, is_uri_byte, is_value_byte, trim_ows}
use Rattle.ocm_texts.specs.Hex.{AreBytes}
use Rattle.ocm_types.specs.Hosts.{is_host}
use Rattle.ocm_http_heads.specs.Endings.{lines}
use Rattle.ocm_http_heads.specs.Heads.{kept_field, is_same}
use Rattle.ocm_http_heads.specs.declared.fields.Field.{Field}
use Rattle.ocm_http_heads.specs.declared.fields.Head.TheVariants.{Request, Reply}
use Rattle.ocm_http.specs.Frames.{Given, Awaited, Over, IsFrame, Frames}
use Rattle.ocm_http.specs.Written.{basic, request_head, written_request, reply_head, written_reply, fixed}
use Rattle.ocm_http.specs.declared.messages.Kind.{Kind}
use Rattle.ocm_http.specs.declared.messages.Kind.TheVariants.{Requests, Replies}
use Rattle.ocm_http.specs.declared.messages.Message.{Message}
use Rattle.ocm_http.specs.declared.writing.Fixed.{Fixed}
use Rattle.ocm_http.specs.declared.writing.Fixed.TheVariants.{Bad, NoMemory}

-- bytes are this message and nothing else, at each place of a stream, whether it ends with them or not
abbrev pub ReadsAs : Kind → ℕ → List ℕ → Message → Type 0
ReadsAs kind max bytes message = (place : ℕ) (ended : Bool) → IsFrame kind max place bytes ended (Given message [])

-- a head's limits: bytes and lines
abbrev pub IsWithinLimits : List ℕ → Type 0
IsWithinLimits head = (length head ≤ most_head_bytes) × (lines head ≤ most_head_lines)

-- a body that a reader takes: at most max bytes, whose number has at most 19 digits
abbrev pub IsBodyOf : ℕ → List ℕ → Type 0
IsBodyOf max body = (length body ≤ max) × (length body < 10 ^ 19)

-- a field's name in lower case, and its value as it stands
abbrev pub lower : Field → Field
lower f = kept_field (f.name, f.value)

abbrev pub field : List ℕ → List ℕ → Field
field name value = record { name = name; value = value }

-- ---- requests

abbrev pub credential_fields : Option (List ℕ) → List Field
credential_fields None = []
credential_fields (Some secret) = field (codes "Authorization") (basic secret) ∷ []

abbrev pub depth_fields : Bool → List Field
depth_fields lists = if lists then field (codes "Depth") (codes "1") ∷ [] else []

abbrev pub type_fields : Bool → List Field
type_fields sends = if sends then field (codes "Content-Type") (codes "application/json") ∷ [] else []

abbrev pub closing_field : Field
closing_field = field (codes "Connection") (codes "close")

abbrev pub length_field : ℕ → Field
length_field n = field (codes "Content-Length") (decimal n)

-- the fields of a request, as they are written, with a body of so many bytes
abbrev pub request_fields : List ℕ → List ℕ → Option (List ℕ) → ℕ → List Field
request_fields host method secret n =
    field (codes "Host") host
    ∷ (credential_fields secret ++ (depth_fields (is_same method (codes "PROPFIND")) ++ (type_fields (is_same method (codes "POST"))
    ++ length_field n ∷ closing_field ∷ [])))

-- a request as it is read
abbrev pub request_message : List ℕ → List ℕ → List ℕ → Option (List ℕ) → List ℕ → Message
request_message host method target secret body =
    record { head = Request method target true (map lower (request_fields host method secret (length body))); body = body }

-- a method and a target that stand in a request's line
pub record IsAsked (method target : List ℕ) : Type 0 where
  pub is_method : IsToken method
  pub is_target : (0 < length target) × AllPass is_uri_byte target

-- bytes are that request, where it is within the limits
abbrev pub RequestIsReadBack : List ℕ → List ℕ → List ℕ → Option (List ℕ) → List ℕ → List ℕ → Type 0
RequestIsReadBack host method target secret body bytes =
    (max : ℕ) → IsAsked method target → length (request_head host method target secret (length body)) ≤ most_head_bytes → IsBodyOf max body
    → ReadsAs Requests max bytes (request_message host method target secret body)

-- a written request is read back: its host and its target are texts, and its secret is bytes
abbrev pub RequestsAreReadBack : Type 0
RequestsAreReadBack =
    (host method target : List ℕ) (secret : Option (List ℕ)) (body : List ℕ) → IsTrue (is_host host) → IsUtf8 target → IfSome secret AreBytes
    → RequestIsReadBack host method target secret body (written_request host method target secret body)

-- ---- replies

-- a field that is read as it is written: its name is a token, its value has no control byte but the tab, and no blank at
-- an end
pub record IsClear (f : Field) : Type 0 where
  pub name : IsToken f.name
  pub value : AllPass is_value_byte f.value
  pub trimmed : trim_ows f.value ≡ f.value

-- whether a field tells a body's length
abbrev pub tells_length : Field → Bool
tells_length f = is_same (lower f).name (codes "content-length") || is_same (lower f).name (codes "transfer-encoding")

-- a field that a reply may be given
abbrev pub IsGiven : Field → Type 0
IsGiven f = IsClear f × (tells_length f ≡ false)

-- the fields of a reply, as they are written, with a body of so many bytes
abbrev pub reply_fields : ℕ → List Field → ℕ → Bool → List Field
reply_fields status fields n closing =
    fields ++ ((if status == 204 then [] else length_field n ∷ []) ++ (if closing then closing_field ∷ [] else []))

-- a reply as it is read
abbrev pub reply_message : ℕ → List Field → List ℕ → Bool → Message
reply_message status fields body closing =
    record { head = Reply status (map lower (reply_fields status fields (length body) closing)); body = body }

-- whether a reply with this status has no body (RFC 9112 section 6.3)
abbrev pub has_no_body : ℕ → Bool
has_no_body status = status == 204 || status == 304

-- bytes are that reply, where it is final and within the limits and its body is written; one that has no body is given
-- none
abbrev pub ReplyIsReadBack : ℕ → List Field → List ℕ → Bool → Bool → List ℕ → Type 0
ReplyIsReadBack status fields body bodyless closing bytes =
    (max : ℕ) → 200 ≤ status → All IsGiven fields → bodyless ≡ false → (has_no_body status ≡ true → body ≡ [])
    → IsWithinLimits (reply_head status fields (length body) closing) → IsBodyOf max body
    → ReadsAs Replies max bytes (reply_message status fields body closing)

-- a written reply is read back
abbrev pub RepliesAreReadBack : Type 0
RepliesAreReadBack =
    (status : ℕ) (fields : List Field) (body : List ℕ) (bodyless closing : Bool) → status < 1000
    → ReplyIsReadBack status fields body bodyless closing (written_reply status fields body bodyless closing)

-- ---- streams

-- bytes that are one message each, one behind another, are the stream of these messages
abbrev pub StreamOfMessages : Type 0
StreamOfMessages =
    (kind : Kind) (max place : ℕ) (written : List (List ℕ × Message)) (ended : Bool)
    → All (λ w. ReadsAs kind max w.0 w.1) written
    → Frames kind max place (flat_map (λ w. w.0) written) ended (map (λ w. w.1) written) (if ended then Over else Awaited)

-- ---- the fixed replies

abbrev pub status_of : Fixed → ℕ
status_of Bad = 400
status_of NoMemory = 500

-- a fixed reply is the written one with its status and with nothing else, which closes
abbrev pub FixedAreWritten : Type 0
FixedAreWritten = (which : Fixed) → fixed which ≡ written_reply (status_of which) [] [] false true
