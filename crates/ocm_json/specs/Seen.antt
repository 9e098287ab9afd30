use Rattle.serde_json.specs.Data.{Data}
use Rattle.serde_json.specs.View.{view}
use Rattle.ocm_json.specs.declared.fields.Fields.{Fields}
use Rattle.ocm_json.specs.declared.borrowed.FieldsRef.{FieldsRef}

-- the object whose fields these are
abbrev pub data_in : Fields → Data
data_in fields = view fields.value

-- the object whose fields these are, where it is not copied
abbrev pub data_at : FieldsRef → Data
data_at fields = view fields.value.now
