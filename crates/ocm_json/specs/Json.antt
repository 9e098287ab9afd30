use Rattle.std.specs.Prelude.{ℕ, List, [], ◌∷◌, if◌then◌else◌, Option, Some, None, option_map, option_and_then, Result, Err, ok_or}
use Rattle.std.specs.Str.{is_utf8}
use Rattle.serde_json.specs.Data.{Data, null, boolean, number, string, array, object, Items, no_items, item}
use Rattle.serde_json.specs.Read.{read}
use Rattle.ocm_json.specs.declared.faults.JsonFault.{JsonFault}
use Rattle.ocm_json.specs.declared.faults.JsonFault.TheVariants.{NotJson, NotObject}

-- the value of a JSON text (RFC 8259): UTF-8 (section 8.1) that the grammar takes, at most 127 levels deep, no number
-- beyond a float; the last of two equal names counts. Nothing where bytes are no such text
abbrev pub json_of : List ℕ → Option Data
json_of bytes = if is_utf8 bytes then read bytes else None

-- the value where it is an object (section 4), and nothing where it is of another kind
abbrev pub object_in : Data → Option Data
object_in null = None
object_in (boolean b) = None
object_in (number n) = None
object_in (string s) = None
object_in (array elements) = None
object_in (object entries) = Some (object entries)

abbrev opened : Option Data → Result Data JsonFault
opened None = Err NotJson
opened (Some value) = ok_or (object_in value) NotObject

-- the object that bytes are, or why they are none
abbrev pub object_of : List ℕ → Result Data JsonFault
object_of bytes = opened (json_of bytes)

-- what each element of a list (section 5) gives, in order; nothing where one gives nothing
abbrev pub each_in : {A : Type 0} → (Data → Option A) → Items → Option (List A)
each_in reading no_items = Some []
each_in reading (item value rest) = option_and_then (λ first. option_map (λ others. first ∷ others) (each_in reading rest)) (reading value)
