use Rattle.std.proofs.Common.{◌≤◌, ◌-◌, length}
use Rattle.ocm_limits.specs.Limits.{most_head_bytes}
use Rattle.ocm_net_flights.specs.Interims.{ArePassed}
use Rattle.ocm_net_flights.proofs.interims.interim_front.Given as goal

abbrev pub invariant-loop-len : goal.invariant-loop-len
invariant-loop-len l = (l.front ≤ length l.bytes) × (l.front ≤ most_head_bytes) × ArePassed l.bytes l.front

abbrev pub decreases-loop-len : goal.decreases-loop-len
decreases-loop-len l = length l.bytes - l.front
