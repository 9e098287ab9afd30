-- What a page tells of an error (Open Cloud Mesh API 1.1): a message, and of a bad request what was wrong with a field.
use Rattle.std.specs.Prelude.{ℕ, List, [], ◌∷◌, codes, Option, Some, None}
use Rattle.ocm_entry.specs.declared.refusals.AddressField.{AddressField}
use Rattle.ocm_entry.specs.declared.refusals.AddressField.TheVariants.{ShareWith, Owner}
use Rattle.ocm_entry.specs.declared.refusals.Why.{Why}
use Rattle.ocm_entry.specs.declared.refusals.Why.TheVariants.{Unauthorized, NotPermitted, RootStays, UnknownShare, ShareClosed, NotFound, NotAllowed, ParentMissing, WrongPhase, UserExists, Collision, BodyRefused, Limit, SenderIdReused, NotOurHost, UnknownUser, OwnHost, SamePlace, Occupied}
use Rattle.ocm_entry.specs.Refusals.{message_of}
use Rattle.ocm_records.specs.declared.values.ErrorBody.{ErrorBody}

-- a message alone
abbrev pub plain : List ℕ → ErrorBody
plain message = record { message = message; errors = [] }

-- a bad request, with what was wrong with the field of a name
abbrev pub noted : List ℕ → List ℕ → ErrorBody
noted reason name = record { message = codes "bad request"; errors = record { message = reason; name = name } ∷ [] }

abbrev pub address_name : AddressField → List ℕ
address_name ShareWith = codes "shareWith"
address_name Owner = codes "owner"

-- the field whose value is refused, where it is one
abbrev pub refused_field : Why → Option (List ℕ)
refused_field Unauthorized = None
refused_field NotPermitted = None
refused_field RootStays = None
refused_field UnknownShare = None
refused_field ShareClosed = None
refused_field NotFound = None
refused_field NotAllowed = None
refused_field ParentMissing = None
refused_field WrongPhase = None
refused_field UserExists = None
refused_field Collision = None
refused_field BodyRefused = None
refused_field (Limit which) = None
refused_field SenderIdReused = None
refused_field NotOurHost = Some (codes "shareWith")
refused_field UnknownUser = Some (codes "shareWith")
refused_field (OwnHost field) = Some (address_name field)
refused_field SamePlace = None
refused_field Occupied = None

-- a reason, and the field that it is about, where there is one
abbrev pub about : List ℕ → Option (List ℕ) → ErrorBody
about reason None = plain reason
about reason (Some name) = noted reason name

-- what is told of a refusal
abbrev pub refusal : Why → ErrorBody
refusal why = about (message_of why) (refused_field why)
