-- The notes that were read so far, and then those of the rest.
use Rattle.std.specs.Prelude.{List, ◌++◌, Result, Ok}
use Rattle.ocm_records.specs.Kinds.{◌>>=◌}
use Rattle.ocm_records.specs.declared.values.FieldNote.{FieldNote}
use Rattle.ocm_records.specs.declared.faults.RecordFault.{RecordFault}

abbrev pub with_front : List FieldNote → Result (List FieldNote) RecordFault → Result (List FieldNote) RecordFault
with_front made rest = rest >>= λ more. Ok (made ++ more)
