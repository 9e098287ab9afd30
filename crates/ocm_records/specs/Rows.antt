-- The rows of a record's table, read one after another up to the first fault.
use Rattle.std.specs.Prelude.{◌≡◌, ℕ, List, Option, Some, None, Result, Ok, Err}
use Rattle.serde_json.specs.Data.{Data}
use Rattle.ocm_json.specs.Json.{object_of}
use Rattle.ocm_json.specs.declared.faults.JsonFault.{JsonFault}
use Rattle.ocm_json.specs.declared.faults.JsonFault.TheVariants as json
use Rattle.ocm_records.specs.Kinds.{Kind, ◌>>=◌, optional}
use Rattle.ocm_records.specs.declared.faults.Field.{Field}
use Rattle.ocm_records.specs.declared.faults.RecordFault.{RecordFault}
use Rattle.ocm_records.specs.declared.faults.RecordFault.TheVariants as faults

-- what stands for an absent value
abbrev pub or_else : {A : Type 0} → Result A RecordFault → Option A → Result A RecordFault
or_else absent (Some x) = Ok x
or_else absent None = absent

-- a row of a field that has to be there
abbrev pub required : {A : Type 0} → Data → Field → Kind A → Result A RecordFault
required d f kind = optional d f kind >>= or_else (Err (faults.Missing f))

-- a row of a field without which the record is not supported
abbrev pub supported : {A : Type 0} → Data → Field → Kind A → Result A RecordFault
supported d f kind = optional d f kind >>= or_else (Err (faults.Unsupported f))

-- a row of a field that counts as this value where it is absent
abbrev pub defaulted : {A : Type 0} → A → Data → Field → Kind A → Result A RecordFault
defaulted x d f kind = optional d f kind >>= or_else (Ok x)

-- the object that bytes are, or why they are none
abbrev pub opened : Result Data JsonFault → Result Data RecordFault
opened (Ok d) = Ok d
opened (Err json.NotJson) = Err faults.NotJson
opened (Err json.NotObject) = Err faults.NotObject
opened (Err json.NoMemory) = Err faults.NoMemory

-- the record that bytes spell, by its table, or the first fault
abbrev pub record_of : {A : Type 0} → (Data → Result A RecordFault) → List ℕ → Result A RecordFault
record_of table bytes = opened (object_of bytes) >>= table

-- a fault is the one that the definition gives; want of memory may come at any bytes
abbrev pub Fails : {Y : Type 0} → RecordFault → Result Y RecordFault → Type 0
Fails faults.NoMemory given = Unit {0}
Fails e given = given ≡ Err e

-- what a function returned, seen by view, is what the definition gives, unless memory ran out
abbrev pub Gives : {X Y : Type 0} → (X → Y) → Result X RecordFault → Result Y RecordFault → Type 0
Gives view (Ok x) given = given ≡ Ok (view x)
Gives view (Err e) given = Fails e given
