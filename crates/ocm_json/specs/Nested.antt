use Rattle.std.specs.Prelude.{ℕ, List, Option, option_and_then, Result, ok_or}
use Rattle.serde_json.specs.Data.{Data}
use Rattle.serde_json.specs.Find.{as_array, as_str}
use Rattle.ocm_json.specs.Fields.{field, maybe}
use Rattle.ocm_json.specs.Json.{each_in, object_in}
use Rattle.ocm_json.specs.declared.faults.JsonFieldFault.{JsonFieldFault}
use Rattle.ocm_json.specs.declared.faults.JsonFieldFault.TheVariants.{Kind}

-- the field as an object
abbrev pub object_field : List ℕ → Data → Result (Option Data) JsonFieldFault
object_field name d = maybe (λ value. ok_or (object_in value) Kind) (field name d)

-- the texts of a list, and nothing where it is no list or one of its elements is no text
abbrev pub texts_in : Data → Option (List (List ℕ))
texts_in value = option_and_then (each_in as_str) (as_array value)

-- the field as a list of texts
abbrev pub texts_field : List ℕ → Data → Result (Option (List (List ℕ))) JsonFieldFault
texts_field name d = maybe (λ value. ok_or (texts_in value) Kind) (field name d)

-- the objects of a list, and nothing where it is no list or one of its elements is no object
abbrev pub objects_in : Data → Option (List Data)
objects_in value = option_and_then (each_in object_in) (as_array value)

-- the field as a list of objects
abbrev pub objects_field : List ℕ → Data → Result (Option (List Data)) JsonFieldFault
objects_field name d = maybe (λ value. ok_or (objects_in value) Kind) (field name d)
