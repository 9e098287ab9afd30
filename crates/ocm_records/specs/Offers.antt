-- The table of an offer (Open Cloud Mesh API 1.1, the body of POST to `{endPoint}/shares`).
use Rattle.std.specs.Prelude.{ℕ, Bool, true, false, List, [], ◌∷◌, codes, Result, Ok}
use Rattle.serde_json.specs.Data.{Data}
use Rattle.ocm_types.specs.declared.addresses.Address.{Address}
use Rattle.ocm_types.specs.declared.letters.Offer.{Offer}
use Rattle.ocm_types.specs.declared.rights.Rights.{Rights}
use Rattle.ocm_records.specs.Kinds.{Kind, word, unsupported, bad_but}
use Rattle.ocm_records.specs.Readings.{share_name, provider_id, secret, address, perms, fields_within, resource}
use Rattle.ocm_records.specs.Kinds.{◌>>=◌}
use Rattle.ocm_records.specs.Rows.{required, supported, defaulted}
use Rattle.ocm_records.specs.declared.choices.Protocol.{Protocol}
use Rattle.ocm_records.specs.declared.choices.Protocol.TheVariants.{Webdav, Multi}
use Rattle.ocm_records.specs.declared.faults.Field.TheVariants as fields
use Rattle.ocm_records.specs.declared.faults.RecordFault.{RecordFault}

-- with whom: with one user
abbrev pub share_type : Kind Bool
share_type = word ((codes "user", true) ∷ []) (bad_but (codes "group" ∷ codes "federation" ∷ []))

-- the form of the access
abbrev pub protocol_name : Kind Protocol
protocol_name = word ((codes "webdav", Webdav) ∷ (codes "multi", Multi) ∷ []) unsupported

-- only to read
abbrev pub to_read : Rights
to_read = record { read = true; write = false; share = false }

-- the object that has the secret
abbrev pub access_in : Protocol → Data → Result Data RecordFault
access_in Webdav protocol = required protocol fields.Options fields_within
access_in Multi protocol = supported protocol fields.Webdav fields_within

-- the permissions beside the secret
abbrev pub perms_in : Protocol → Data → Result Rights RecordFault
perms_in Webdav access = Ok to_read
perms_in Multi access = defaulted to_read access fields.Permissions perms

-- the sender, who is the owner where no other is named
abbrev pub sender_or : Address → Data → Result Address RecordFault
sender_or owner d = defaulted owner d fields.Sender address

-- the rows of the access: the secret and the permissions
unfoldable pub access : Data → Result (List ℕ × Rights) RecordFault
access d = do
  protocol ← required d fields.Protocol fields_within
  form ← required protocol fields.Name protocol_name
  inner ← access_in form protocol
  secret ← required inner fields.SharedSecret secret
  perms ← perms_in form inner
  Ok (secret, perms)

unfoldable pub offer : Data → Result Offer RecordFault
offer d = do
  with ← required d fields.ShareWith address
  name ← required d fields.Name share_name
  id ← required d fields.ProviderId provider_id
  owner ← required d fields.Owner address
  sender ← sender_or owner d
  _ ← required d fields.ShareType share_type
  _ ← required d fields.ResourceType resource
  access ← access d
  Ok (record { with = with; name = name; id = id; owner = owner; sender = sender; secret = access.0; perms = access.1 })

-- the same rows in four groups, one after another

-- with whom, and the name
unfoldable pub recipient : Data → Result (Address × List ℕ) RecordFault
recipient d = do
  with ← required d fields.ShareWith address
  name ← required d fields.Name share_name
  Ok (with, name)

-- the owner's mark, the owner and the sender
unfoldable pub origin : Data → Result (List ℕ × Address × Address) RecordFault
origin d = do
  id ← required d fields.ProviderId provider_id
  owner ← required d fields.Owner address
  sender ← sender_or owner d
  Ok (id, owner, sender)

-- the kinds of the recipient and of what is shared
unfoldable pub kinds : Data → Result Bool RecordFault
kinds d = do
  _ ← required d fields.ShareType share_type
  required d fields.ResourceType resource

-- an offer, group by group
unfoldable pub by_groups : Data → Result Offer RecordFault
by_groups d = do
  recipient ← recipient d
  origin ← origin d
  _ ← kinds d
  access ← access d
  Ok (record { with = recipient.0; name = recipient.1; id = origin.0; owner = origin.1; sender = origin.2; secret = access.0; perms = access.1 })
