use Rattle.std.proofs.Common.{◌≡◌, take, map}
use Rattle.serde_json.specs.View.{view}
use Rattle.ocm_records.specs.Written.{note_data}
use Rattle.ocm_records.proofs.document_json.note_values.Given as goal

abbrev pub invariant-loop-note : goal.invariant-loop-note
invariant-loop-note l = map view l.made.items ≡ map note_data (take l.note-index l.notes)
