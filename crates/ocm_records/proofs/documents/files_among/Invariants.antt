use Rattle.std.proofs.Common.{◌≡◌, drop, map, find}
use Rattle.ocm_json.specs.Seen.{data_at}
use Rattle.ocm_records.specs.Documents as documents
use Rattle.ocm_records.proofs.documents.files_among.Given as goal

abbrev pub invariant-loop-fields : goal.invariant-loop-fields
invariant-loop-fields l = find documents.is_files (map data_at (drop l.fields-index l.types)) ≡ find documents.is_files (map data_at l.types)
