use Rattle.std.specs.Prelude.{ℕ, List, length, Bool, nat_le, ◌&&◌, if◌then◌else◌, Option, Some, None, option_and_then, Result, Ok, Err, ok_or}
use Rattle.serde_json.specs.Data.{Num, Data, null, boolean, number, string, array, object}
use Rattle.serde_json.specs.Find.{get, as_bool, as_number, as_str, as_u64}
use Rattle.ocm_json.specs.declared.faults.FieldFault.{FieldFault}
use Rattle.ocm_json.specs.declared.faults.FieldFault.TheVariants.{Kind, Length, Range}

-- null counts as absent
abbrev pub not_null : Data → Option Data
not_null null = None
not_null (boolean b) = Some (boolean b)
not_null (number n) = Some (number n)
not_null (string s) = Some (string s)
not_null (array elements) = Some (array elements)
not_null (object entries) = Some (object entries)

-- the value of the field of this name, and nothing where the object has none or null
abbrev pub field : List ℕ → Data → Option Data
field name d = option_and_then not_null (get name d)

abbrev there : {A F : Type 0} → Result A F → Result (Option A) F
there (Ok value) = Ok (Some value)
there (Err fault) = Err fault

-- a field that may be absent, and whose value is read so
abbrev pub maybe : {A F : Type 0} → (Data → Result A F) → Option Data → Result (Option A) F
maybe reading None = Ok None
maybe reading (Some value) = there (reading value)

-- at least `low` bytes and at most `high`
abbrev pub has_length : ℕ → ℕ → List ℕ → Bool
has_length low high text = nat_le low (length text) && nat_le (length text) high

abbrev bounded : ℕ → ℕ → Option (List ℕ) → Result (List ℕ) FieldFault
bounded low high None = Err Kind
bounded low high (Some text) = if has_length low high text then Ok text else Err Length

abbrev whole : Option Num → Result ℕ FieldFault
whole None = Err Kind
whole (Some n) = ok_or (as_u64 n) Range

-- the field as a text of `low` to `high` bytes
abbrev pub text_field : ℕ → ℕ → List ℕ → Data → Result (Option (List ℕ)) FieldFault
text_field low high name d = maybe (λ value. bounded low high (as_str value)) (field name d)

-- the field as `true` or `false`
abbrev pub flag_field : List ℕ → Data → Result (Option Bool) FieldFault
flag_field name d = maybe (λ value. ok_or (as_bool value) Kind) (field name d)

-- the field as a whole number below 2^64, as it is written: neither `1.0` nor `-1` is one
abbrev pub number_field : List ℕ → Data → Result (Option ℕ) FieldFault
number_field name d = maybe (λ value. whole (as_number value)) (field name d)
