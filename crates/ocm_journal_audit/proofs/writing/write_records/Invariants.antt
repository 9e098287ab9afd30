use Rattle.std.proofs.Common.{◌≡◌, ◌≤◌, ◌+◌, ◌++◌, length, IsOk}
use Rattle.ocm_journal_image.specs.Reading.{records_from}
use Rattle.ocm_journal_audit.specs.Passes.{told_lines}
use Rattle.ocm_journal_audit.proofs.Sending.{Sent}
use Rattle.ocm_journal_audit.proofs.writing.write_records.Given as goal

abbrev pub invariant-loop-bytes : goal.invariant-loop-bytes
invariant-loop-bytes g l =
    let sink = g.K.Sink in
    record {
      framed : IsOk (records_from 0 l.end l.rest);
      fits : l.end + length l.rest ≡ l.fn.place + length l.fn.bytes;
      sent : Sent (sink.taken l.fn.sink) (sink.taken l.sink) l.held (told_lines l.form (records_from 0 l.end l.rest)) (l.fn.text ++ told_lines l.form (records_from 0 l.fn.place l.fn.bytes));
      never_falls : sink.faults l.fn.sink ≤ sink.faults l.sink;
    }

abbrev pub decreases-loop-bytes : goal.decreases-loop-bytes
decreases-loop-bytes g l = length l.rest
