-- The kinds that several records have fields of.
use Rattle.std.specs.Prelude.{ℕ, Bool, true, ◌&&◌, if◌then◌else◌, nat_le, List, [], ◌∷◌, codes, Option, Some, None, Result, Ok, Err}
use Rattle.serde_json.specs.Data.{Data}
use Rattle.ocm_types.specs.Texts.{has_length, name_of, share_name_of, provider_id_of, sender_id_of, secret_of}
use Rattle.ocm_types.specs.Addresses.{address_of}
use Rattle.ocm_types.specs.declared.addresses.Address.{Address}
use Rattle.ocm_types.specs.declared.rights.Rights.{Rights}
use Rattle.ocm_path.specs.Paths.{Segments, path_given}
use Rattle.ocm_records.specs.Kinds.{Kind, text, text_or_whole, word, whole, object, permissions, unsupported}
use Rattle.ocm_types.specs.declared.texts.TextFault.{TextFault}
use Rattle.ocm_types.specs.declared.texts.TextFault.TheVariants as text_faults
use Rattle.ocm_records.specs.declared.faults.Field.{Field}
use Rattle.ocm_records.specs.declared.faults.RecordFault.{RecordFault}
use Rattle.ocm_records.specs.declared.faults.RecordFault.TheVariants as faults

-- a reading's value, where there is no fault
abbrev pub value_of : {A F : Type 0} → Result A F → Option A
value_of (Ok x) = Some x
value_of (Err e) = None

-- the number, where it is from low to high
abbrev pub within : ℕ → ℕ → ℕ → Option ℕ
within low high n = if nat_le low n && nat_le n high then Some n else None

-- the text, where it has from low to high bytes
abbrev pub text_within : ℕ → ℕ → List ℕ → Option (List ℕ)
text_within low high s = if has_length low high s then Some s else None

-- a text of 1 to 64 bytes of UTF-8, and so on: the types of the values
abbrev pub user_name : Kind (List ℕ)
user_name = text name_of

abbrev pub share_name : Kind (List ℕ)
share_name = text share_name_of

abbrev pub provider_id : Kind (List ℕ)
provider_id = text_or_whole provider_id_of

abbrev pub sender_id : Kind (List ℕ)
sender_id = text_or_whole sender_id_of

abbrev pub secret : Kind (List ℕ)
secret = text secret_of

abbrev pub address : Kind Address
address = text (λ s. value_of (address_of s))

abbrev pub path : Kind Segments
path = text path_given

-- the number of a share, of a received share or of a request
abbrev pub number : Kind ℕ
number = whole (within 0 4294967295)

-- permissions
abbrev pub perms : Kind Rights
perms = permissions (λ rights. rights)

-- an object in an object
abbrev pub fields_within : Kind Data
fields_within = object (λ d. d)

-- the kind of what is shared
abbrev pub resource : Kind Bool
resource = word ((codes "file", true) ∷ (codes "folder", true) ∷ []) unsupported

-- the value of a text that was read by its type, or the fault that it is a bad value
abbrev pub taken_text : {A : Type 0} → Field → Result A TextFault → Result A RecordFault
taken_text f (Ok x) = Ok x
taken_text f (Err text_faults.Length) = Err (faults.Value f)
taken_text f (Err text_faults.Char) = Err (faults.Value f)
taken_text f (Err text_faults.NoMemory) = Err faults.NoMemory
