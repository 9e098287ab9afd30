-- What is posted (RFC 9110 section 9.3.3): offers and notifications of other servers (Open Cloud Mesh API 1.1), and the
-- commands of local users.
use Rattle.std.specs.Prelude.{ℕ, not, nat_lt, List, length, codes, bytes_eq, if◌then◌else◌, Option, Some, None, Result, Ok, Err}
use Rattle.ocm_limits.specs.Limits.{most_json_bytes}
use Rattle.ocm_types.specs.declared.letters.Offer.{Offer}
use Rattle.ocm_types.specs.declared.letters.Notice.{Notice}
use Rattle.ocm_entry.specs.declared.asks.Ask.TheVariants as asks
use Rattle.ocm_entry.specs.declared.refusals.Why.TheVariants as reasons
use Rattle.ocm_records.specs.Rows.{record_of}
use Rattle.ocm_records.specs.Offers.{offer}
use Rattle.ocm_records.specs.Notices.{notice}
use Rattle.ocm_records.specs.Commands.{local}
use Rattle.ocm_records.specs.declared.faults.RecordFault.{RecordFault}
use Rattle.ocm_records.specs.declared.values.LocalAsk.{LocalAsk}
use Rattle.ocm_records.specs.declared.values.LocalAsk.TheVariants as locals
use Rattle.ocm_http_heads.specs.declared.fields.Field.{Field}
use Rattle.ocm_dav_pages.specs.declared.shapes.Shape.{Shape}
use Rattle.ocm_dav_pages.specs.declared.shapes.Page.{Page}
use Rattle.ocm_dav_pages.specs.Pages.{message_page}
use Rattle.ocm_dav.specs.declared.wants.Wanted.{Wanted}
use Rattle.ocm_dav.specs.declared.wants.Wanted.TheVariants as wanted
use Rattle.ocm_dav.specs.Credentials.{credentials_of}
use Rattle.ocm_dav.specs.Refusals.{refusal, refused, bad_record, cross_site}
use Rattle.ocm_dav.specs.Sites.{is_cross_site}

-- the refusal of what is not posted, or has a body of more than 65,536 bytes
abbrev pub post_refusal : List ℕ → List ℕ → Shape → Option Page
post_refusal method body shape =
    if not (bytes_eq method (codes "POST")) then Some (refusal reasons.NotAllowed shape)
    else if nat_lt most_json_bytes (length body) then Some (message_page 400 (codes "body too long") shape)
    else None

-- a refusal, or else what is wanted
abbrev pub unless : Option Page → Wanted → Wanted
unless (Some page) other = wanted.Page page
unless None other = other

-- what an offer wants, or one with a fault
abbrev pub offer_wanted : Shape → Result Offer RecordFault → Wanted
offer_wanted shape (Ok offer) = wanted.Ask (asks.Offer offer) shape
offer_wanted shape (Err fault) = bad_record fault shape

-- what a notification wants, with the drawn bytes, or one with a fault
abbrev pub notice_wanted : List ℕ → Shape → Result Notice RecordFault → Wanted
notice_wanted fresh shape (Ok notice) = wanted.Ask (asks.Notice notice fresh) shape
notice_wanted fresh shape (Err fault) = bad_record fault shape

-- what a request for a share wants
abbrev pub shares_wanted : List ℕ → List ℕ → Shape → Wanted
shares_wanted method body shape = unless (post_refusal method body shape) (offer_wanted shape (record_of offer body))

-- what a request with a notification wants
abbrev pub notifications_wanted : List ℕ → List ℕ → List ℕ → Shape → Wanted
notifications_wanted method body fresh shape =
    unless (post_refusal method body shape) (notice_wanted fresh shape (record_of notice body))

-- a new user, which only the administrator may add
abbrev pub user_wanted : List ℕ → List ℕ → List ℕ → List ℕ → Shape → Wanted
user_wanted admin secret name fresh shape =
    if bytes_eq secret admin then wanted.Ask (asks.AddUser name fresh) shape else refused reasons.Unauthorized shape

-- what a command wants of the holder of a secret, or one with a fault
abbrev pub command_wanted : List ℕ → List ℕ → List ℕ → Shape → Result LocalAsk RecordFault → Wanted
command_wanted admin secret fresh shape (Ok (locals.User name)) = user_wanted admin secret name fresh shape
command_wanted admin secret fresh shape (Ok (locals.Command cmd)) = wanted.Ask (asks.Local secret cmd) shape
command_wanted admin secret fresh shape (Err fault) = bad_record fault shape

-- what a command wants by its credentials, which come before the record
abbrev pub keyed : List ℕ → List ℕ → List ℕ → Shape → Option (List ℕ) → Wanted
keyed admin body fresh shape None = refused reasons.Unauthorized shape
keyed admin body fresh shape (Some secret) = command_wanted admin secret fresh shape (record_of (local fresh) body)

-- what a command wants by the credentials that the fields give
abbrev pub by_key : List ℕ → List Field → List ℕ → List ℕ → Shape → Wanted
by_key admin fields body fresh shape = keyed admin body fresh shape (credentials_of fields)

-- what a command wants of the server of this host by the site that it comes from, which is before its credentials
abbrev pub from_own_site : List ℕ → List ℕ → List Field → List ℕ → List ℕ → Shape → Wanted
from_own_site host admin fields body fresh shape =
    if is_cross_site host fields then cross_site shape else by_key admin fields body fresh shape

-- what a request with a command wants of the server of this host
abbrev pub local_wanted : List ℕ → List ℕ → List ℕ → List Field → List ℕ → List ℕ → Shape → Wanted
local_wanted host admin method fields body fresh shape =
    unless (post_refusal method body shape) (from_own_site host admin fields body fresh shape)
