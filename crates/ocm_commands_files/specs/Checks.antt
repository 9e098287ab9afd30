use Rattle.std.specs.Prelude.{◌≡◌, ℕ, List, [], ◌∷◌, ◌++◌, Option, Some, None, codes, Result, Ok, Err}
use Rattle.std.specs.Fmt.{decimal}
use Rattle.serde_json.specs.Data.{Data}
use Rattle.serde_json.specs.Written.{compact_text}
use Rattle.ocm_records.specs.Documents as documents
use Rattle.ocm_records.specs.Fields.{field_of, name_of, number_of}
use Rattle.ocm_records.specs.Notices as notices
use Rattle.ocm_records.specs.Offers as offers
use Rattle.ocm_records.specs.Rows.{record_of}
use Rattle.ocm_records.specs.Written as written
use Rattle.ocm_records.specs.declared.faults.Field.{Field}
use Rattle.ocm_records.specs.declared.faults.RecordFault.{RecordFault}
use Rattle.ocm_commands_files.specs.declared.ends.End.{End}
use Rattle.ocm_commands_files.specs.declared.ends.End.TheVariants as whole
use Rattle.ocm_commands_files.specs.declared.words.Kind.{Kind}
use Rattle.ocm_commands_files.specs.declared.words.Kind.TheVariants as kinds

-- a record in its one form, where it was read without a fault
abbrev pub canonical : {A : Type 0} → (A → Data) → Result A RecordFault → Result (List ℕ) RecordFault
canonical form (Ok value) = Ok (compact_text (form value))
canonical form (Err fault) = Err fault

-- the record of a kind that these bytes are, in its one form, or its first fault
abbrev pub checked : Kind → List ℕ → Result (List ℕ) RecordFault
checked kinds.Discovery bytes = canonical written.discovery_data (record_of documents.discovery bytes)
checked kinds.Offer bytes = canonical written.offer_data (record_of offers.offer bytes)
checked kinds.Notice bytes = canonical written.notice_data (record_of notices.notice bytes)
checked kinds.Error bytes = canonical written.error_data (record_of documents.error bytes)

-- the name of a field behind a space, where there is one
abbrev pub behind_space : Option Field → List ℕ
behind_space (Some field) = 32 ∷ name_of field
behind_space None = []

-- the line that tells a fault: its number, and the field where it is one of a field
abbrev pub fault_line : RecordFault → List ℕ
fault_line fault = codes "fault " ++ decimal (number_of fault) ++ behind_space (field_of fault) ++ 10 ∷ []

-- what is written of a record, or of its fault
abbrev pub Tells : Result (List ℕ) RecordFault → End → List ℕ → Type 0
Tells (Ok form) end text = (end ≡ whole.Done) × (text ≡ form ++ 10 ∷ [])
Tells (Err fault) end text = (end ≡ whole.Record) × (text ≡ fault_line fault)

-- A record gives the status 0 and its one form, and bytes that are no such record give the status 8 and the first fault.
abbrev pub Checks : Kind → List ℕ → End → List ℕ → Type 0
Checks kind bytes end text = Tells (checked kind bytes) end text
