use Rattle.std.proofs.Common.{◌≡◌, ◌<◌, length, arith}
use Rattle.ocm_schedule.specs.Schedules.{State}
use Rattle.ocm_schedule.proofs.ScheduleLemmas.{renewed_is}
use Rattle.ocm_schedule.proofs.schedules.Schedule.renew.Goals as goal

pub invariant_of-self : goal.invariant_of-self
invariant_of-self c =
    let s : State = record { lanes = c.self.inside.lanes.items; hosts = c.self.inside.hosts.items } in
    let n : c.len-then-host-len.result ≡ length c.self.inside.lanes.items = omega (arith, c.len-then-host-len.ensures) in
    let i : c.args.host < length c.self.inside.hosts.items = omega (arith, c.if-host-len.true, c.len.ensures) in
    rw (c.assign.ensures, c.first_lane-lane.ensures, n) (renewed_is s c.args.host c.args.owner i c.self.invariant)
