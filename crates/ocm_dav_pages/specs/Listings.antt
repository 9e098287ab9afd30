-- What a user has, as JSON: the shares that were offered to the user, the user's requests to share further, and the
-- shares of the user's files. Keys stand in the order of their bytes.
use Rattle.std.specs.Prelude.{ℕ, List, [], ◌∷◌, Bool, true, false, codes, Option, Some, None}
use Rattle.std.specs.List.{flat_map}
use Rattle.serde_json.specs.Data.{Data, string, number, unsigned, array, object, Members, member, no_members}
use Rattle.serde_json.specs.View.{items_of}
use Rattle.ocm_types.specs.declared.addresses.Address.{Address}
use Rattle.ocm_types.specs.declared.letters.Offer.{Offer}
use Rattle.ocm_types.specs.declared.phases.Phase.{Phase}
use Rattle.ocm_types.specs.declared.phases.RequestPhase.{RequestPhase}
use Rattle.ocm_types.specs.declared.phases.RequestPhase.TheVariants as states
use Rattle.ocm_types.specs.declared.rights.Rights.{Rights}
use Rattle.ocm_types.specs.Phases.{phase_word}
use Rattle.ocm_path.specs.Paths.{Segments, path_escaped}
use Rattle.ocm_entry.specs.declared.listings.Line.{Line}
use Rattle.ocm_entry.specs.declared.listings.Line.TheVariants as lines
use Rattle.ocm_records.specs.Written.{address_data, perms_data, member_if, data_if}
use Rattle.ocm_dav_pages.specs.declared.listings.Part.{Part}
use Rattle.ocm_dav_pages.specs.declared.listings.Part.TheVariants.{Received, Requests, Shares}

-- the members of a received offer from `permissions` on
abbrev pub offered_members : Offer → Phase → Members
offered_members offer phase =
    member (codes "permissions") (perms_data offer.perms)
    (member (codes "phase") (string (phase_word phase))
    (member (codes "providerId") (string offer.id)
    (member (codes "sharedSecret") (string offer.secret)
    no_members)))

abbrev pub received_data : ℕ → Offer → Phase → Data
received_data n offer phase =
    object
    (member (codes "name") (string offer.name)
    (member (codes "number") (number (unsigned n))
    (member (codes "owner") (address_data offer.owner)
    (offered_members offer phase))))

-- the phase of a request
abbrev pub request_word : RequestPhase → List ℕ
request_word states.Asked = codes "asked"
request_word (states.Granted child) = codes "granted"
request_word states.Refused = codes "refused"
request_word states.Undone = codes "undone"

-- the share that was made for a request, where one was
abbrev pub child_data : RequestPhase → Option Data
child_data states.Asked = None
child_data (states.Granted child) = Some (string child)
child_data states.Refused = None
child_data states.Undone = None

-- the members of a request from `phase` on
abbrev pub later_members : ℕ → Address → RequestPhase → Members
later_members received with state =
    member (codes "phase") (string (request_word state))
    (member (codes "received") (number (unsigned received))
    (member (codes "shareWith") (address_data with)
    no_members))

-- a request, with a child where one was granted, and with permissions where some were asked for
abbrev pub request_data : ℕ → ℕ → Address → Option Rights → RequestPhase → Data
request_data n received with perms state =
    object
    (member_if (codes "child") (child_data state)
    (member (codes "number") (number (unsigned n))
    (member_if (codes "permissions") (data_if perms_data perms)
    (later_members received with state))))

-- whether a share is live
abbrev pub live_word : Bool → List ℕ
live_word true = codes "live"
live_word false = codes "closed"

-- the members of a share from `permissions` on
abbrev pub guest_members : Address → Rights → Bool → Members
guest_members with perms live =
    member (codes "permissions") (perms_data perms)
    (member (codes "shareWith") (address_data with)
    (member (codes "state") (string (live_word live))
    no_members))

abbrev pub share_data : ℕ → Segments → Address → Rights → Bool → Data
share_data n path with perms live =
    object
    (member (codes "number") (number (unsigned n))
    (member (codes "path") (string (path_escaped path))
    (guest_members with perms live)))

-- what a list shows of a line: an object where the line is one of that list, and else nothing
unfoldable pub line_data : Part → Line → List Data
line_data Received (lines.Received n offer phase) = received_data n offer phase ∷ []
line_data Received (lines.Request n received with perms state) = []
line_data Received (lines.Share n path with perms live) = []
line_data Requests (lines.Received n offer phase) = []
line_data Requests (lines.Request n received with perms state) = request_data n received with perms state ∷ []
line_data Requests (lines.Share n path with perms live) = []
line_data Shares (lines.Received n offer phase) = []
line_data Shares (lines.Request n received with perms state) = []
line_data Shares (lines.Share n path with perms live) = share_data n path with perms live ∷ []

-- a list of what a user has, in the order of the lines
unfoldable pub part_data : Part → List Line → Data
part_data part listed = array (items_of (flat_map (line_data part) listed))

abbrev pub listing_data : List Line → Data
listing_data listed =
    object
    (member (codes "received") (part_data Received listed)
    (member (codes "requests") (part_data Requests listed)
    (member (codes "shares") (part_data Shares listed)
    no_members)))
