use Rattle.std.proofs.Common.{◌≡◌, ◌≤◌, ◌+◌, length}
use Rattle.ocm_journal_image.specs.Reading.{records_from}
use Rattle.ocm_journal_image.proofs.RecordsRead.{put_all}
use Rattle.ocm_journal_image.proofs.areas.read_records.Given as goal

abbrev pub invariant-loop-items : goal.invariant-loop-items
invariant-loop-items l = record {
  reads : put_all l.items (records_from 0 l.end l.rest) ≡ records_from 0 l.fn.place l.fn.bytes;
  fits : l.end + length l.rest ≡ l.fn.place + length l.fn.bytes;
  above : l.fn.place ≤ l.end;
}

abbrev pub decreases-loop-items : goal.decreases-loop-items
decreases-loop-items l = length l.rest
