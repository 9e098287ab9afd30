use Rattle.std.proofs.Common.{◌≡◌, ◌+◌, ◌-◌, [], length, drop}
use Rattle.ocm_logcheck.specs.Replays.{count_true}
use Rattle.ocm_logcheck.proofs.blanks.count_true_of_none.Given as goal

abbrev pub invariant-loop-found : goal.invariant-loop-found
invariant-loop-found l = count_true [] [] l.lines ≡ l.found + count_true [] [] (drop l.found l.lines)

abbrev pub decreases-loop-found : goal.decreases-loop-found
decreases-loop-found l = length l.lines - l.found
