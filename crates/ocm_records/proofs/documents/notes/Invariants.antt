use Rattle.std.proofs.Common.{◌≡◌, drop, map, true}
use Rattle.std.specs.List.{list_all}
use Rattle.ocm_json.specs.Seen.{data_at}
use Rattle.ocm_records.specs.Documents as documents
use Rattle.ocm_records.proofs.EachNote.{with_front}
use Rattle.ocm_records.proofs.documents.notes.Given as goal

abbrev pub invariant-loop-object : goal.invariant-loop-object
invariant-loop-object l = record {
  so_far : with_front l.made (documents.notes (map data_at (drop l.object-index l.objects))) ≡ documents.notes (map data_at l.objects);
  sound : list_all documents.is_note l.made ≡ true;
}
