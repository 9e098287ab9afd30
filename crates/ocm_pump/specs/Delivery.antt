-- The delivery of a letter: the search for the document of the server that it is for, and the post
-- (Open Cloud Mesh API 1.1).
use Rattle.std.specs.Prelude.{◌≡◌, ℕ, Bool, true, false, ◌&&◌, ◌==◌, if◌then◌else◌, nat_le, List, [], ◌++◌, codes, Option, Some, None, Result, Ok, Err}
use Rattle.serde_json.specs.Data.{Data}
use Rattle.serde_json.specs.Written.{compact_text}
use Rattle.ocm_types.specs.declared.letters.Notice.{Notice}
use Rattle.ocm_types.specs.declared.letters.Notice.TheVariants as notices
use Rattle.ocm_types.specs.declared.letters.Letter.{Letter}
use Rattle.ocm_types.specs.declared.letters.Letter.TheVariants as letters
use Rattle.ocm_types.specs.declared.letters.Numbered.{Numbered}
use Rattle.ocm_http_heads.specs.declared.fields.Head.{Head}
use Rattle.ocm_http_heads.specs.declared.fields.Head.TheVariants.{Request, Reply}
use Rattle.ocm_http.specs.Written.{written_request}
use Rattle.ocm_http.specs.declared.messages.Message.{Message}
use Rattle.ocm_records.specs.Readings.{provider_id}
use Rattle.ocm_records.specs.Rows.{record_of, required}
use Rattle.ocm_records.specs.Written.{offer_data, notice_data}
use Rattle.ocm_records.specs.declared.faults.Field.TheVariants.{ProviderId}
use Rattle.ocm_records.specs.declared.faults.RecordFault.{RecordFault}
use Rattle.ocm_rules.specs.Settlements.{settles, is_success}
use Rattle.ocm_pump.specs.Replies.{Sends, Gives}
use Rattle.ocm_pump.specs.Sites.{site_read}
use Rattle.ocm_pump.specs.declared.exchanges.Exchange.{Exchange}
use Rattle.ocm_pump.specs.declared.sites.Site.{Site}
use Rattle.ocm_pump.specs.declared.deliveries.Answered.{Answered}
use Rattle.ocm_pump.specs.declared.faults.PumpFault.{PumpFault}
use Rattle.ocm_pump.specs.declared.faults.PumpFault.TheVariants.{DialFault, NoDiscovery, BadReply, NoMemory}

-- ---- the document

-- the two places of the document, the first one first
abbrev pub first_place : List ℕ
first_place = codes "/.well-known/ocm"

abbrev pub second_place : List ℕ
second_place = codes "/ocm-provider/"

-- the request for the document: without credentials and without a body
unfoldable pub document_request : List ℕ → List ℕ → List ℕ
document_request host place = written_request host (codes "GET") place None []

-- the site by a reply: a 200 whose body is a usable document
abbrev pub site_by : Head → List ℕ → Option Site
site_by (Reply status fields) body = if status == 200 then site_read body else None
site_by (Request method target closing fields) body = None

-- the site by what came back; bytes that are no reply have none
abbrev pub site_in : Result Message PumpFault → Result (Option Site) PumpFault
site_in (Ok message) = Ok (site_by message.head message.body)
site_in (Err (BadReply place)) = Ok None
site_in (Err DialFault) = Err DialFault
site_in (Err NoDiscovery) = Err NoDiscovery
site_in (Err NoMemory) = Err NoMemory

-- a host is asked for its document at a place
abbrev pub Asks : List ℕ → List ℕ → List Exchange → Result (Option Site) PumpFault → Type 0
Asks host place added found =
    (sent : Result Message PumpFault) × Sends host (document_request host place) added sent × Gives found (site_in sent)

-- what the second place gives; where that has no usable document either there is none
abbrev pub found_at_last : Result (Option Site) PumpFault → Result Site PumpFault
found_at_last (Ok (Some site)) = Ok site
found_at_last (Ok None) = Err NoDiscovery
found_at_last (Err fault) = Err fault

-- a host is asked for its document at the second place
abbrev pub AsksLast : List ℕ → List Exchange → Result Site PumpFault → Type 0
AsksLast host added result =
    (found : Result (Option Site) PumpFault) × Asks host second_place added found × (result ≡ found_at_last found)

-- a host is asked at the first place, and at the second where the first gave no usable document
pub data Discovers (host : List ℕ) (added : List Exchange) (result : Result Site PumpFault) : Type 0 where
  at_first : (site : Site) → Asks host first_place added (Ok (Some site)) → result ≡ Ok site → Discovers host added result
  stopped : (fault : PumpFault) → Asks host first_place added (Err fault) → result ≡ Err fault → Discovers host added result
  at_second : (before after : List Exchange) → Asks host first_place before (Ok None) → AsksLast host after result
      → added ≡ after ++ before → Discovers host added result

-- ---- the post

-- what stands behind the site's path
abbrev pub letter_end : Letter → List ℕ
letter_end (letters.Offer offer) = codes "/shares"
letter_end (letters.Notice notice) = codes "/notifications"

-- the letter's record
abbrev pub letter_bytes : Letter → List ℕ
letter_bytes (letters.Offer offer) = compact_text (offer_data offer)
letter_bytes (letters.Notice notice) = compact_text (notice_data notice)

-- the post of a letter: without credentials
unfoldable pub post_request : Site → Letter → List ℕ
post_request site letter = written_request site.host (codes "POST") (site.path ++ letter_end letter) None (letter_bytes letter)

-- whether a notification asks the owner to share with another
abbrev pub is_reshare_request : Notice → Bool
is_reshare_request (notices.Accepted id secret owner with perms) = false
is_reshare_request (notices.Declined id secret) = false
is_reshare_request (notices.Unshared id secret) = false
is_reshare_request (notices.ReshareRequest id secret with sender_id perms) = true
is_reshare_request (notices.ReshareUndo id secret) = false
is_reshare_request (notices.Changed id secret serial perms) = false

abbrev pub asks_share : Letter → Bool
asks_share (letters.Offer offer) = false
asks_share (letters.Notice notice) = is_reshare_request notice

-- the mark of the share that was made, as an offer has it
unfoldable pub child : Data → Result (List ℕ) RecordFault
child d = required d ProviderId provider_id

-- the answer with the mark of the share that was made, which has to be there
abbrev pub with_child : ℕ → Result (List ℕ) RecordFault → Result Answered PumpFault
with_child status (Ok id) = Ok (record { status = status; id = Some id })
with_child status (Err fault) = Err (BadReply 0)

-- the answer to a letter: the reply's status and, for success of a reshare request, the mark in its body
abbrev pub answer_of : Letter → ℕ → List ℕ → Result Answered PumpFault
answer_of letter status body =
    if asks_share letter && is_success status then with_child status (record_of child body)
    else Ok (record { status = status; id = None })

abbrev pub answer_by : Letter → Head → List ℕ → Result Answered PumpFault
answer_by letter (Reply status fields) body = answer_of letter status body
answer_by letter (Request method target closing fields) body = Err (BadReply 0)

-- the answer by what came back
abbrev pub answer_in : Letter → Result Message PumpFault → Result Answered PumpFault
answer_in letter (Ok message) = answer_by letter message.head message.body
answer_in letter (Err fault) = Err fault

-- a letter is posted to a site
abbrev pub Posts : Site → Letter → List Exchange → Result Answered PumpFault → Type 0
Posts site letter added result =
    (sent : Result Message PumpFault) × Sends site.host (post_request site letter) added sent × Gives result (answer_in letter sent)

-- ---- both

-- the search and, where a document was usable, the one post
pub data Delivers (message : Numbered) (added : List Exchange) (result : Result Answered PumpFault) : Type 0 where
  undiscovered : (fault : PumpFault) → Discovers message.to added (Err fault) → result ≡ Err fault → Delivers message added result
  posted : (before after : List Exchange) (site : Site)
      → Discovers message.to before (Ok site) → Posts site message.letter after result
      → added ≡ after ++ before → Delivers message added result

-- whether what came of a delivery settles its letter: an answer does by its status and mark, and a fault never does
abbrev pub is_settled : Letter → Result Answered PumpFault → Bool
is_settled letter (Ok answered) = settles letter answered.status answered.id
is_settled letter (Err fault) = false
