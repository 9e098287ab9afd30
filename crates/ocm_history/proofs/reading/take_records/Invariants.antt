use Rattle.std.proofs.Common.{◌≡◌, ◌++◌, List, length}
use Rattle.ocm_journal_image.specs.declared.readings.RawRecord.{RawRecord}
use Rattle.ocm_history.specs.Histories.{home_of}
use Rattle.ocm_history.proofs.Going.{Opened}
use Rattle.ocm_history.proofs.reading.take_records.Given as goal

abbrev pub invariant-loop-record : goal.invariant-loop-record
invariant-loop-record l = record {
  home : home_of l.history ≡ home_of l.fn.history;
  taken : (front : List RawRecord) × (front ++ l.left ≡ l.records) × Opened (home_of l.fn.history) l.form front l.history;
}

abbrev pub decreases-loop-record : goal.decreases-loop-record
decreases-loop-record l = length l.left
