use Rattle.std.proofs.Common.{◌≤◌, ◌+◌, ◌-◌, length}
use Rattle.ocm_schedule.specs.Circles.{HasSameLists}
use Rattle.ocm_schedule.proofs.circles.widen.Given as goal

abbrev pub invariant-loop-own : goal.invariant-loop-own
invariant-loop-own l = HasSameLists l.initial.own.items l.own.items × (length l.initial.own.items ≤ length l.own.items)

abbrev pub decreases-loop-own : goal.decreases-loop-own
decreases-loop-own l = l.owner + 1 - length l.own.items
