-- The tables of a discovery document and of an error body (Open Cloud Mesh API 1.1).
use Rattle.std.specs.Prelude.{ℕ, ◌∷◌, [], List, Bool, true, false, ◌&&◌, if◌then◌else◌, nat_eq, nat_le, length, codes, bytes_eq, find, Option, Some, None, Result, Ok, Err}
use Rattle.std.specs.List.{list_all}
use Rattle.serde_json.specs.Data.{Data}
use Rattle.ocm_types.specs.Texts.{has_length}
use Rattle.ocm_records.specs.Kinds.{Kind, text, flag, objects}
use Rattle.ocm_records.specs.Readings.{text_within, fields_within}
use Rattle.ocm_records.specs.Kinds.{◌>>=◌}
use Rattle.ocm_records.specs.Kinds.{text_at, optional}
use Rattle.ocm_records.specs.Rows.{required}
use Rattle.ocm_records.specs.declared.values.Discovery.{Discovery}
use Rattle.ocm_records.specs.declared.values.ErrorBody.{ErrorBody}
use Rattle.ocm_records.specs.declared.values.FieldNote.{FieldNote}
use Rattle.ocm_records.specs.declared.faults.Field.TheVariants as fields
use Rattle.ocm_records.specs.declared.faults.RecordFault.{RecordFault}

-- true or false
abbrev pub yes_or_no : Kind Bool
yes_or_no = flag (λ b. b)

-- a text of low to high bytes
abbrev pub text_of : ℕ → ℕ → Kind (List ℕ)
text_of low high = text (text_within low high)

-- 1 to 1,024 bytes that begin with `/`
abbrev pub is_root_path : List ℕ → Bool
is_root_path [] = false
is_root_path (b ∷ bs) = nat_le (length (b ∷ bs)) 1024 && nat_eq b 47

-- the path of an interface
abbrev pub interface : Kind (List ℕ)
interface = text (λ s. if is_root_path s then Some s else None)

-- a list of objects
abbrev pub list_of_objects : Kind (List Data)
list_of_objects = objects (λ ds. ds)

-- whether a name that was read is that of files
abbrev pub names_files : Result (Option (List ℕ)) RecordFault → Bool
names_files (Ok (Some name)) = bytes_eq name (codes "file")
names_files (Ok None) = false
names_files (Err e) = false

-- whether a resource type is that of files
abbrev pub is_files : Data → Bool
is_files d = names_files (text_at d fields.Name)

-- the path that protocols have; absent protocols have none
abbrev pub webdav_of : Option Data → Result (Option (List ℕ)) RecordFault
webdav_of None = Ok None
webdav_of (Some protocols) = optional protocols fields.Webdav interface

-- the path for files, where there is such a resource type
abbrev pub webdav_in : Option Data → Result (Option (List ℕ)) RecordFault
webdav_in None = Ok None
webdav_in (Some files) = optional files fields.Protocols fields_within >>= webdav_of

-- the path for files, from the resource types
unfoldable pub webdav_among : Data → Result (Option (List ℕ)) RecordFault
webdav_among d = do
  types ← required d fields.ResourceTypes list_of_objects
  webdav_in (find is_files types)

unfoldable pub discovery : Data → Result Discovery RecordFault
discovery d = do
  enabled ← required d fields.Enabled yes_or_no
  version ← required d fields.ApiVersion (text_of 1 64)
  end_point ← required d fields.EndPoint (text_of 1 1024)
  webdav ← webdav_among d
  Ok (record { enabled = enabled; version = version; end_point = end_point; webdav = webdav })

-- what was wrong with a field
unfoldable pub note : Data → Result FieldNote RecordFault
note d = do
  message ← required d fields.Message (text_of 0 1024)
  name ← required d fields.Name (text_of 0 1024)
  Ok (record { message = message; name = name })

-- one before others
abbrev pub after : FieldNote → Result (List FieldNote) RecordFault → Result (List FieldNote) RecordFault
after n rest = rest >>= λ ns. Ok (n ∷ ns)

-- one after another
unfoldable pub notes : List Data → Result (List FieldNote) RecordFault
notes [] = Ok []
notes (d ∷ ds) = note d >>= λ n. after n (notes ds)

-- the notes, none where they are absent
abbrev pub notes_of : Option (List Data) → Result (List FieldNote) RecordFault
notes_of None = Ok []
notes_of (Some ds) = notes ds

unfoldable pub error : Data → Result ErrorBody RecordFault
error d = do
  message ← required d fields.Message (text_of 0 1024)
  errors ← optional d fields.ValidationErrors list_of_objects
  notes ← notes_of errors
  Ok (record { message = message; errors = notes })

-- a text that may be absent
abbrev pub is_interface : Option (List ℕ) → Bool
is_interface None = true
is_interface (Some path) = is_root_path path

-- a document whose texts have the lengths and beginnings that its table asks
abbrev pub is_discovery : Discovery → Bool
is_discovery d = has_length 1 64 d.version && has_length 1 1024 d.end_point && is_interface d.webdav

abbrev pub is_note : FieldNote → Bool
is_note n = has_length 0 1024 n.message && has_length 0 1024 n.name

-- an error body whose texts have at most 1,024 bytes
abbrev pub is_error : ErrorBody → Bool
is_error e = has_length 0 1024 e.message && list_all is_note e.errors
