-- The kinds of fields that records have: what a field of a kind is read as, and its faults.
use Rattle.std.specs.Prelude.{ℕ, Bool, if◌then◌else◌, decimal, List, [], ◌∷◌, codes, bytes_eq, Option, Some, None, Result, Ok, Err}
use Rattle.std.specs.List.{list_any}
use Rattle.serde_json.specs.Data.{Data}
use Rattle.ocm_types.specs.Rights.{perms_from}
use Rattle.ocm_types.specs.declared.rights.Rights.{Rights}
use Rattle.ocm_json.specs.Fields.{text_field, number_field, flag_field}
use Rattle.ocm_json.specs.Nested.{object_field, objects_field, texts_field}
use Rattle.ocm_json.specs.declared.faults.FieldFault.{FieldFault}
use Rattle.ocm_json.specs.declared.faults.FieldFault.TheVariants as text_faults
use Rattle.ocm_json.specs.declared.faults.JsonFieldFault.{JsonFieldFault}
use Rattle.ocm_json.specs.declared.faults.JsonFieldFault.TheVariants as object_faults
use Rattle.ocm_records.specs.Fields.{name_of}
use Rattle.ocm_records.specs.declared.faults.Field.{Field}
use Rattle.ocm_records.specs.declared.faults.RecordFault.{RecordFault}
use Rattle.ocm_records.specs.declared.faults.RecordFault.TheVariants as faults

-- the words that a field has and that are not taken
pub data Others : Type 0 where
  -- each is a value that is not supported
  unsupported : Others
  -- these are values that are not supported, and any other is a bad value
  bad_but : List (List ℕ) → Others

-- the kind of a field, and what its value is read as
pub data Kind (A : Type 0) : Type 0 where
  -- a text, by a reading; what that refuses is a bad value
  text : (List ℕ → Option A) → Kind A
  -- such a text, or a whole number, which stands for its decimal
  text_or_whole : (List ℕ → Option A) → Kind A
  -- a text that is one of these words, each with what it stands for
  word : List (List ℕ × A) → Others → Kind A
  -- a whole number, by a reading; what that refuses, and any other number, is a bad value
  whole : (ℕ → Option A) → Kind A
  -- true or false
  flag : (Bool → A) → Kind A
  -- an object
  object : (Data → A) → Kind A
  -- a list of objects
  objects : (List Data → A) → Kind A
  -- a list of texts, of which `read`, `write` and `share` count; none of them is a bad value
  permissions : (Rights → A) → Kind A

-- one reading after another, up to the first fault
infixl 10 ◌>>=◌
abbrev pub ◌>>=◌ : {A B : Type 0} → Result A RecordFault → (A → Result B RecordFault) → Result B RecordFault
(Ok x) >>= f = f x
(Err e) >>= f = Err e

-- a value that may be absent, read on where it is there
abbrev pub each : {A B : Type 0} → (A → Result B RecordFault) → Option A → Result (Option B) RecordFault
each reading None = Ok None
each reading (Some x) = reading x >>= λ y. Ok (Some y)

-- the value of a reading, or the fault that it is a bad value
abbrev pub taken : {A : Type 0} → Field → Option A → Result A RecordFault
taken f (Some x) = Ok x
taken f None = Err (faults.Value f)

-- the fault of a text, a flag or a number
abbrev pub plain_fault : Field → FieldFault → RecordFault
plain_fault f text_faults.Kind = faults.Kind f
plain_fault f text_faults.Length = faults.Value f
plain_fault f text_faults.Range = faults.Value f

abbrev pub plain : {A : Type 0} → Field → Result A FieldFault → Result A RecordFault
plain f (Ok x) = Ok x
plain f (Err e) = Err (plain_fault f e)

-- the fault of an object or a list
abbrev pub nested_fault : Field → JsonFieldFault → RecordFault
nested_fault f object_faults.Kind = faults.Kind f
nested_fault f object_faults.NoMemory = faults.NoMemory

abbrev pub nested : {A : Type 0} → Field → Result A JsonFieldFault → Result A RecordFault
nested f (Ok x) = Ok x
nested f (Err e) = Err (nested_fault f e)

-- the most bytes that a text may have
abbrev pub most_bytes : ℕ
most_bytes = 18446744073709551615

-- a field as a JSON value of one kind: nothing where it is absent or null
abbrev pub text_at : Data → Field → Result (Option (List ℕ)) RecordFault
text_at d f = plain f (text_field 0 most_bytes (name_of f) d)

abbrev pub number_at : Data → Field → Result (Option ℕ) RecordFault
number_at d f = plain f (number_field (name_of f) d)

abbrev pub flag_at : Data → Field → Result (Option Bool) RecordFault
flag_at d f = plain f (flag_field (name_of f) d)

abbrev pub object_at : Data → Field → Result (Option Data) RecordFault
object_at d f = nested f (object_field (name_of f) d)

abbrev pub objects_at : Data → Field → Result (Option (List Data)) RecordFault
objects_at d f = nested f (objects_field (name_of f) d)

abbrev pub texts_at : Data → Field → Result (Option (List (List ℕ))) RecordFault
texts_at d f = nested f (texts_field (name_of f) d)

-- the decimal of a whole number
abbrev pub decimal_of : Field → Result (Option ℕ) FieldFault → Result (Option (List ℕ)) RecordFault
decimal_of f n = plain f n >>= each (λ k. Ok (decimal k))

abbrev pub decimal_at : Data → Field → Result (Option (List ℕ)) RecordFault
decimal_at d f = decimal_of f (number_field (name_of f) d)

-- a text, or the decimal of a number where the field is no text
abbrev pub text_or_decimal : Field → Result (Option (List ℕ)) FieldFault → Result (Option ℕ) FieldFault → Result (Option (List ℕ)) RecordFault
text_or_decimal f (Ok s) n = Ok s
text_or_decimal f (Err text_faults.Kind) n = decimal_of f n
text_or_decimal f (Err text_faults.Length) n = Err (faults.Value f)
text_or_decimal f (Err text_faults.Range) n = Err (faults.Value f)

abbrev pub text_or_decimal_at : Data → Field → Result (Option (List ℕ)) RecordFault
text_or_decimal_at d f = text_or_decimal f (text_field 0 most_bytes (name_of f) d) (number_field (name_of f) d)

-- what the first of the words that is this one stands for
abbrev pub meaning : {A : Type 0} → List (List ℕ × A) → List ℕ → Option A
meaning [] s = None
meaning (w ∷ ws) s = if bytes_eq s w.0 then Some w.1 else meaning ws s

-- the fault of a word that is not taken
abbrev pub other : Others → Field → List ℕ → RecordFault
other unsupported f s = faults.Unsupported f
other (bad_but known) f s = if list_any (λ w. bytes_eq s w) known then faults.Unsupported f else faults.Value f

-- what a word stands for, or the fault
abbrev pub chosen : {A : Type 0} → RecordFault → Option A → Result A RecordFault
chosen fault (Some x) = Ok x
chosen fault None = Err fault

-- whether a word is among some texts
abbrev pub has_word : List ℕ → List (List ℕ) → Bool
has_word w texts = list_any (λ s. bytes_eq s w) texts

-- the rights that some texts name
abbrev pub rights_in : List (List ℕ) → Rights
rights_in texts = record { read = has_word (codes "read") texts; write = has_word (codes "write") texts; share = has_word (codes "share") texts }

-- the permissions that some texts name, where they name any
abbrev pub granted : List (List ℕ) → Option Rights
granted texts = perms_from (rights_in texts)

-- a field of an object, read by its kind: nothing where it is absent or null, or its fault
abbrev pub optional : {A : Type 0} → Data → Field → Kind A → Result (Option A) RecordFault
optional d f (text reading) = text_at d f >>= each (λ s. taken f (reading s))
optional d f (text_or_whole reading) = text_or_decimal_at d f >>= each (λ s. taken f (reading s))
optional d f (word ws others) = text_at d f >>= each (λ s. chosen (other others f s) (meaning ws s))
optional d f (whole reading) = number_at d f >>= each (λ n. taken f (reading n))
optional d f (flag made) = flag_at d f >>= each (λ b. Ok (made b))
optional d f (object made) = object_at d f >>= each (λ o. Ok (made o))
optional d f (objects made) = objects_at d f >>= each (λ os. Ok (made os))
optional d f (permissions made) = texts_at d f >>= each (λ texts. taken f (granted texts) >>= λ rights. Ok (made rights))
