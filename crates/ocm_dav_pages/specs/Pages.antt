-- The page of each reply: its status and the bytes of the whole message.
use Rattle.std.specs.Prelude.{ℕ, ◌+◌, Bool, true, false, ◌&&◌, ◌==◌, List, [], ◌∷◌, ◌++◌, length, slice_range, codes, if◌then◌else◌, IsTrue, Option, Some, None}
use Rattle.std.specs.Fmt.{decimal}
use Rattle.serde_json.specs.Data.{Data, object, no_members}
use Rattle.serde_json.specs.Written.{compact_text}
use Rattle.ocm_davmore.specs.declared.ranges.Span.{Span}
use Rattle.ocm_davmore.specs.Ranges.{is_suffix, places_of}
use Rattle.ocm_http_heads.specs.declared.fields.Field.{Field}
use Rattle.ocm_http.specs.Written.{written_reply, fixed}
use Rattle.ocm_http.specs.declared.writing.Fixed.TheVariants as fixed_replies
use Rattle.ocm_entry.specs.declared.listings.DavItem.{DavItem}
use Rattle.ocm_entry.specs.declared.listings.Line.{Line}
use Rattle.ocm_entry.specs.declared.refusals.Why.{Why}
use Rattle.ocm_entry.specs.declared.replies.Reply.{Reply}
use Rattle.ocm_entry.specs.declared.replies.Reply.TheVariants.{Key, Number, Done, Left, Listing, Recipient, Noticed, Child, File, Items, Created, Replaced, Removed, Due, Refused, JournalFull, NoMemory, DiskFault, Stopped}
use Rattle.ocm_entry.specs.Refusals.{status_of}
use Rattle.ocm_records.specs.declared.faults.RecordFault.{RecordFault}
use Rattle.ocm_records.specs.declared.faults.RecordFault.TheVariants as faults
use Rattle.ocm_records.specs.declared.values.Discovery.{Discovery}
use Rattle.ocm_records.specs.declared.values.ErrorBody.{ErrorBody}
use Rattle.ocm_records.specs.Fields.{name_of}
use Rattle.ocm_records.specs.Written.{discovery_data, error_data}
use Rattle.ocm_dav_pages.specs.declared.shapes.Page.{Page}
use Rattle.ocm_dav_pages.specs.declared.shapes.Shape.{Shape}
use Rattle.ocm_dav_pages.specs.Bodies.{one_text, one_number}
use Rattle.ocm_dav_pages.specs.Errors.{plain, noted, refusal}
use Rattle.ocm_dav_pages.specs.Fields.{content_type, content_range, no_range, status_fields}
use Rattle.ocm_dav_pages.specs.Listings.{listing_data}
use Rattle.ocm_dav_pages.specs.Multistatus as xml

-- a page with these fields, and behind them those that its status asks for
unfoldable pub page : ℕ → List Field → List ℕ → Shape → Page
page status fields body shape = record {
  status = status;
  bytes = written_reply status (fields ++ status_fields status shape.allow) body shape.bodyless shape.closing;
}

-- a page without a body
abbrev pub bare_page : ℕ → Shape → Page
bare_page status shape = page status [] [] shape

-- a page with a body of a type
abbrev pub typed_page : ℕ → List ℕ → List ℕ → Shape → Page
typed_page status kind body shape = page status (content_type kind ∷ []) body shape

-- the types of bodies
abbrev pub json : List ℕ
json = codes "application/json"

abbrev pub xml_type : List ℕ
xml_type = codes "application/xml; charset=utf-8"

abbrev pub octets : List ℕ
octets = codes "application/octet-stream"

-- a page with a JSON value, as its text with no space in it
abbrev pub json_page : ℕ → Data → Shape → Page
json_page status value shape = typed_page status json (compact_text value) shape

-- what tells no reply
abbrev pub no_page : Page
no_page = record { status = 0; bytes = [] }

-- ---- errors

abbrev pub error_page : ℕ → ErrorBody → Shape → Page
error_page status error shape = json_page status (error_data error) shape

-- a message alone
unfoldable pub message_page : ℕ → List ℕ → Shape → Page
message_page status message shape = error_page status (plain message) shape

-- a bad request, with what was wrong with a field
abbrev pub note_page : List ℕ → List ℕ → Shape → Page
note_page reason name shape = error_page 400 (noted reason name) shape

abbrev pub refusal_page : Why → Shape → Page
refusal_page why shape = error_page (status_of why) (refusal why) shape

-- a record's fault; want of memory has no page of its own
unfoldable pub fault_page : RecordFault → Shape → Page
fault_page faults.NotJson shape = message_page 400 (codes "not json") shape
fault_page faults.NotObject shape = message_page 400 (codes "not an object") shape
fault_page (faults.Missing field) shape = note_page (codes "missing") (name_of field) shape
fault_page (faults.Kind field) shape = note_page (codes "wrong kind") (name_of field) shape
fault_page (faults.Value field) shape = note_page (codes "bad value") (name_of field) shape
fault_page (faults.Unsupported field) shape = message_page 501 (codes "not supported") shape
fault_page faults.NoMemory shape = no_page

-- that no list without a finite depth is given
unfoldable pub finite_depth_page : Shape → Page
finite_depth_page shape = typed_page 403 xml_type xml.finite_depth shape

-- ---- the discovery document

-- what the server of a host says of itself
abbrev pub document_of : List ℕ → Discovery
document_of host = record {
  enabled = true;
  version = codes "1.1.0";
  end_point = codes "http://" ++ host ++ codes "/ocm";
  webdav = Some (codes "/dav/");
}

unfoldable pub discovery_page : List ℕ → Shape → Page
discovery_page host shape = json_page 200 (discovery_data (document_of host)) shape

-- ---- files

-- the span that counts for a file of so many bytes: one from the end is passed over where there is none
abbrev pub wanted : Option Span → ℕ → Option Span
wanted None size = None
wanted (Some span) size = if is_suffix span && size == 0 then None else Some span

-- the bytes from a first to a last place
abbrev pub part_page : List ℕ → ℕ → ℕ → Shape → Page
part_page body first last shape =
    page 206 (content_type octets ∷ content_range first last (length body) ∷ []) (slice_range body first (last + 1)) shape

-- a file of so many bytes has none of those that are asked for
abbrev pub no_part_page : ℕ → Shape → Page
no_part_page size shape = page 416 (no_range size ∷ []) [] shape

abbrev pub places_page : List ℕ → Option (ℕ × ℕ) → Shape → Page
places_page body (Some places) shape = part_page body places.0 places.1 shape
places_page body None shape = no_part_page (length body) shape

-- the bytes that a span names
abbrev pub span_page : List ℕ → Span → Shape → Page
span_page body span shape = places_page body (places_of span (length body)) shape

-- the bytes that a span names, or all of them
abbrev pub bytes_page : List ℕ → Option Span → Shape → Page
bytes_page body (Some span) shape = span_page body span shape
bytes_page body None shape = typed_page 200 octets body shape

abbrev pub file_page : List ℕ → Shape → Page
file_page body shape = bytes_page body (wanted shape.range (length body)) shape

-- ---- the other replies

-- something new that a text names
abbrev pub text_page : List ℕ → List ℕ → Shape → Page
text_page key text shape = json_page 201 (one_text key text) shape

abbrev pub number_page : ℕ → Shape → Page
number_page n shape = json_page 201 (one_number (codes "number") n) shape

abbrev pub child_page : ℕ → Shape → Page
child_page id shape = text_page (codes "providerId") (decimal id) shape

abbrev pub noticed_page : Shape → Page
noticed_page shape = json_page 201 (object no_members) shape

abbrev pub listing_page : List Line → Shape → Page
listing_page lines shape = json_page 200 (listing_data lines) shape

abbrev pub items_page : List DavItem → Shape → Page
items_page items shape = typed_page 207 xml_type (xml.multistatus items) shape

-- the fixed reply where there was no memory, whatever the request
abbrev pub no_memory_page : Page
no_memory_page = record { status = 500; bytes = fixed fixed_replies.NoMemory }

-- whether a reply has a page: a status that settles nothing has none, nor have the messages that are due
abbrev pub has_page : Reply → Bool
has_page (Key key) = true
has_page (Number n) = true
has_page Done = true
has_page Left = false
has_page (Listing lines) = true
has_page (Recipient user) = true
has_page Noticed = true
has_page (Child id) = true
has_page (File body) = true
has_page (Items items) = true
has_page Created = true
has_page Replaced = true
has_page Removed = true
has_page (Due messages) = false
has_page (Refused why) = true
has_page JournalFull = true
has_page NoMemory = true
has_page (DiskFault count) = true
has_page (Stopped count) = true

abbrev pub HasPage : Reply → Type 0
HasPage reply = IsTrue (has_page reply)

-- the page of a reply
unfoldable pub page_of : Reply → Shape → Page
page_of (Key key) shape = text_page (codes "key") key shape
page_of (Number n) shape = number_page n shape
page_of Done shape = bare_page 204 shape
page_of Left shape = no_page
page_of (Listing lines) shape = listing_page lines shape
page_of (Recipient user) shape = text_page (codes "recipientDisplayName") user shape
page_of Noticed shape = noticed_page shape
page_of (Child id) shape = child_page id shape
page_of (File body) shape = file_page body shape
page_of (Items items) shape = items_page items shape
page_of Created shape = bare_page 201 shape
page_of Replaced shape = bare_page 204 shape
page_of Removed shape = bare_page 204 shape
page_of (Due messages) shape = no_page
page_of (Refused why) shape = refusal_page why shape
page_of JournalFull shape = message_page 507 (codes "journal full") shape
page_of NoMemory shape = no_memory_page
page_of (DiskFault count) shape = message_page 503 (codes "disk fault " ++ decimal count) shape
page_of (Stopped count) shape = message_page 503 (codes "stopped " ++ decimal count) shape
