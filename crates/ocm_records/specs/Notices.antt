-- The table of a notification (Open Cloud Mesh API 1.1, the body of POST to `{endPoint}/notifications`).
use Rattle.std.specs.Prelude.{ℕ, true, List, [], ◌∷◌, codes, Result, Ok}
use Rattle.serde_json.specs.Data.{Data}
use Rattle.ocm_types.specs.declared.letters.Notice.{Notice}
use Rattle.ocm_types.specs.declared.letters.Notice.TheVariants as notices
use Rattle.ocm_records.specs.Kinds.{Kind, word, whole, unsupported}
use Rattle.ocm_records.specs.Readings.{within, provider_id, sender_id, secret, address, perms, fields_within, resource}
use Rattle.ocm_records.specs.Kinds.{◌>>=◌}
use Rattle.ocm_records.specs.Kinds.{optional}
use Rattle.ocm_records.specs.Rows.{required, defaulted}
use Rattle.ocm_records.specs.declared.choices.Event.{Event}
use Rattle.ocm_records.specs.declared.choices.Event.TheVariants.{Accepted, Declined, Unshared, ReshareRequest, ReshareUndo, Changed}
use Rattle.ocm_records.specs.declared.faults.Field.TheVariants as fields
use Rattle.ocm_records.specs.declared.faults.RecordFault.{RecordFault}

-- the types of notifications
abbrev pub event_words : List (List ℕ × Event)
event_words =
    (codes "SHARE_ACCEPTED", Accepted)
    ∷ (codes "SHARE_DECLINED", Declined)
    ∷ (codes "SHARE_UNSHARED", Unshared)
    ∷ (codes "REQUEST_RESHARE", ReshareRequest)
    ∷ (codes "RESHARE_UNDO", ReshareUndo)
    ∷ (codes "RESHARE_CHANGE_PERMISSION", Changed)
    ∷ []

abbrev pub notification_type : Kind Event
notification_type = word event_words unsupported

-- the number of a change of permissions
abbrev pub serial : Kind ℕ
serial = whole (within 1 4294967295)

-- how a recipient understood the offer that it took
unfoldable pub accepted : List ℕ → List ℕ → Data → Result Notice RecordFault
accepted id secret d = do
  owner ← optional d fields.Owner address
  with ← optional d fields.ShareWith address
  perms ← optional d fields.Permissions perms
  Ok (notices.Accepted id secret owner with perms)

-- a recipient's request to share further
unfoldable pub reshare_request : List ℕ → List ℕ → Data → Result Notice RecordFault
reshare_request id secret d = do
  with ← required d fields.ShareWith address
  sender_id ← required d fields.SenderId sender_id
  perms ← optional d fields.Permissions perms
  Ok (notices.ReshareRequest id secret with sender_id perms)

-- a change of permissions
unfoldable pub changed : List ℕ → List ℕ → Data → Result Notice RecordFault
changed id secret d = do
  serial ← required d fields.Serial serial
  perms ← required d fields.Permissions perms
  Ok (notices.Changed id secret serial perms)

-- the further fields of each type
abbrev pub told : Event → List ℕ → List ℕ → Data → Result Notice RecordFault
told Accepted id secret d = accepted id secret d
told Declined id secret d = Ok (notices.Declined id secret)
told Unshared id secret d = Ok (notices.Unshared id secret)
told ReshareRequest id secret d = reshare_request id secret d
told ReshareUndo id secret d = Ok (notices.ReshareUndo id secret)
told Changed id secret d = changed id secret d

unfoldable pub notice : Data → Result Notice RecordFault
notice d = do
  event ← required d fields.NotificationType notification_type
  _ ← defaulted true d fields.ResourceType resource
  id ← required d fields.ProviderId provider_id
  notification ← required d fields.Notification fields_within
  secret ← required notification fields.SharedSecret secret
  told event id secret notification
