use Rattle.std.proofs.Common.{◌≡◌, ◌≤◌, ◌+◌, length}
use Rattle.ocm_journal_image.specs.Reading.{records_from}
use Rattle.ocm_journal_area.specs.Areas.{end_of}
use Rattle.ocm_journal_area.proofs.placed_records.last_gate.Given as goal

abbrev pub invariant-loop-record : goal.invariant-loop-record
invariant-loop-record l = record {
  reads : end_of (records_from 0 l.end l.rest) ≡ end_of (records_from 0 l.fn.place l.fn.bytes);
  fits : l.end + length l.rest ≡ l.fn.place + length l.fn.bytes;
  above : l.fn.place ≤ l.end;
}

abbrev pub decreases-loop-record : goal.decreases-loop-record
decreases-loop-record l = length l.rest
