-- A text that has to be there, before it is read as a value.
use Rattle.std.specs.Prelude.{ℕ, List, Result, Err}
use Rattle.serde_json.specs.Data.{Data}
use Rattle.ocm_records.specs.Kinds.{◌>>=◌, text_at}
use Rattle.ocm_records.specs.Rows.{or_else}
use Rattle.ocm_records.specs.declared.faults.Field.{Field}
use Rattle.ocm_records.specs.declared.faults.RecordFault.{RecordFault}
use Rattle.ocm_records.specs.declared.faults.RecordFault.TheVariants as faults

-- the text, or why there is none
abbrev pub wanted_text : Data → Field → Result (List ℕ) RecordFault
wanted_text d f = text_at d f >>= or_else (Err (faults.Missing f))
