-- The JSON values that records are written as: keys in the order of their bytes, and no other fields.
use Rattle.std.specs.Prelude.{ℕ, List, [], ◌∷◌, codes, map, Option, Some, None}
use Rattle.serde_json.specs.Data.{Data, string, boolean, number, unsigned, array, object, item, no_items, Members, member, no_members, put}
use Rattle.serde_json.specs.View.{items_of}
use Rattle.ocm_types.specs.Rights.{words_of}
use Rattle.ocm_types.specs.Addresses.{address_text}
use Rattle.ocm_types.specs.declared.addresses.Address.{Address}
use Rattle.ocm_types.specs.declared.rights.Rights.{Rights}
use Rattle.ocm_types.specs.declared.letters.Offer.{Offer}
use Rattle.ocm_types.specs.declared.letters.Notice.{Notice}
use Rattle.ocm_types.specs.declared.letters.Notice.TheVariants.{Accepted, Declined, Unshared, ReshareRequest, ReshareUndo, Changed}
use Rattle.ocm_records.specs.declared.values.Discovery.{Discovery}
use Rattle.ocm_records.specs.declared.values.ErrorBody.{ErrorBody}
use Rattle.ocm_records.specs.declared.values.FieldNote.{FieldNote}

-- an address, as its text
abbrev pub address_data : Address → Data
address_data a = string (address_text a)

-- permissions, as the list of their words in the order read, write, share
abbrev pub perms_data : Rights → Data
perms_data rights = array (items_of (map string (words_of rights)))

-- one more member, where there is a value
abbrev pub member_if : List ℕ → Option Data → Members → Members
member_if key (Some d) rest = member key d rest
member_if key None rest = rest

-- the members with one more, where there is a value
abbrev pub put_if : List ℕ → Option Data → Members → Members
put_if key (Some d) members = put key d members
put_if key None members = members

-- how the share of an offer is reached: by WebDAV at `/dav/`
abbrev pub access_data : List ℕ → Rights → Data
access_data secret perms =
    object
    (member (codes "permissions") (perms_data perms)
    (member (codes "sharedSecret") (string secret)
    (member (codes "uri") (string (codes "/dav/"))
    no_members)))

abbrev pub protocol_data : List ℕ → Rights → Data
protocol_data secret perms =
    object
    (member (codes "name") (string (codes "multi"))
    (member (codes "webdav") (access_data secret perms)
    no_members))

-- the members of an offer from `resourceType` on
abbrev pub later_members : Offer → Members
later_members o =
    member (codes "resourceType") (string (codes "file"))
    (member (codes "sender") (address_data o.sender)
    (member (codes "shareType") (string (codes "user"))
    (member (codes "shareWith") (address_data o.with)
    no_members)))

abbrev pub offer_data : Offer → Data
offer_data o =
    object
    (member (codes "name") (string o.name)
    (member (codes "owner") (address_data o.owner)
    (member (codes "protocol") (protocol_data o.secret o.perms)
    (member (codes "providerId") (string o.id)
    (later_members o)))))

-- a value that may be absent
abbrev pub data_if : {A : Type 0} → (A → Data) → Option A → Option Data
data_if data_of (Some x) = Some (data_of x)
data_if data_of None = None

-- the secret, which each notification has
abbrev pub secret_member : List ℕ → Members
secret_member secret = member (codes "sharedSecret") (string secret) no_members

abbrev pub accepted_members : List ℕ → Option Address → Option Address → Option Rights → Members
accepted_members secret owner with perms =
    member_if (codes "owner") (data_if address_data owner)
    (member_if (codes "permissions") (data_if perms_data perms)
    (member_if (codes "shareWith") (data_if address_data with)
    (secret_member secret)))

abbrev pub request_members : List ℕ → Address → List ℕ → Option Rights → Members
request_members secret with sender_id perms =
    member_if (codes "permissions") (data_if perms_data perms)
    (member (codes "senderId") (string sender_id)
    (member (codes "shareWith") (address_data with)
    (secret_member secret)))

abbrev pub change_members : List ℕ → ℕ → Rights → Members
change_members secret serial perms =
    member (codes "permissions") (perms_data perms)
    (member (codes "serial") (number (unsigned serial))
    (secret_member secret))

-- a notification of a type about a share, with the object that tells it
abbrev pub told_data : List ℕ → List ℕ → Data → Data
told_data event id notification =
    object
    (member (codes "notification") notification
    (member (codes "notificationType") (string event)
    (member (codes "providerId") (string id)
    (member (codes "resourceType") (string (codes "file"))
    no_members))))

abbrev pub notice_data : Notice → Data
notice_data (Accepted id secret owner with perms) = told_data (codes "SHARE_ACCEPTED") id (object (accepted_members secret owner with perms))
notice_data (Declined id secret) = told_data (codes "SHARE_DECLINED") id (object (secret_member secret))
notice_data (Unshared id secret) = told_data (codes "SHARE_UNSHARED") id (object (secret_member secret))
notice_data (ReshareRequest id secret with sender_id perms) = told_data (codes "REQUEST_RESHARE") id (object (request_members secret with sender_id perms))
notice_data (ReshareUndo id secret) = told_data (codes "RESHARE_UNDO") id (object (secret_member secret))
notice_data (Changed id secret serial perms) = told_data (codes "RESHARE_CHANGE_PERMISSION") id (object (change_members secret serial perms))

-- files by WebDAV at a path, shared with users
abbrev pub files_data : List ℕ → Data
files_data webdav =
    object
    (member (codes "name") (string (codes "file"))
    (member (codes "protocols") (object (member (codes "webdav") (string webdav) no_members))
    (member (codes "shareTypes") (array (item (string (codes "user")) no_items))
    no_members)))

abbrev pub types_data : Option (List ℕ) → Data
types_data (Some webdav) = array (item (files_data webdav) no_items)
types_data None = array no_items

abbrev pub discovery_data : Discovery → Data
discovery_data d =
    object
    (member (codes "apiVersion") (string d.version)
    (member (codes "enabled") (boolean d.enabled)
    (member (codes "endPoint") (string d.end_point)
    (member (codes "resourceTypes") (types_data d.webdav)
    no_members))))

abbrev pub note_data : FieldNote → Data
note_data n =
    object
    (member (codes "message") (string n.message)
    (member (codes "name") (string n.name)
    no_members))

-- the notes, where there are any
abbrev pub notes_data : List FieldNote → Option Data
notes_data [] = None
notes_data (n ∷ ns) = Some (array (items_of (map note_data (n ∷ ns))))

abbrev pub error_data : ErrorBody → Data
error_data e =
    object
    (member (codes "message") (string e.message)
    (member_if (codes "validationErrors") (notes_data e.errors)
    no_members))
