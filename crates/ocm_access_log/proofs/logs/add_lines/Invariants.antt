use Rattle.std.proofs.Common.{◌≡◌, ◌+◌, ◌≤◌, length, []}
use Rattle.ocm_access_log.specs.Lines.{lines_from, log_of}
use Rattle.ocm_access_log.proofs.LineSteps.{with_front}
use Rattle.ocm_access_log.proofs.logs.add_lines.Given as goal

abbrev pub invariant-loop-rest : goal.invariant-loop-rest
invariant-loop-rest l = record {
  so_far : with_front l.lines (lines_from l.number l.place l.moment [] l.rest) ≡ log_of l.log;
  fits : l.number + length l.rest ≤ length l.log + 1;
}

abbrev pub decreases-loop-rest : goal.decreases-loop-rest
decreases-loop-rest l = length l.rest
