use Rattle.std.proofs.Common.{◌≡◌, length, arith}
use Rattle.ocm_schedule.specs.Schedules.{State}
use Rattle.ocm_schedule.proofs.MakeLemmas.{added_is}
use Rattle.ocm_schedule.proofs.schedules.Schedule.add_host.Goals as goal

pub invariant_of-self-2 : goal.invariant_of-self-2
invariant_of-self-2 c =
    let s : State = record { lanes = c.self.inside.lanes.items; hosts = c.self.inside.hosts.items } in
    let n : c.len.result ≡ length c.self.inside.lanes.items = omega (arith, c.len.ensures) in
    rw (c.in_ok-add.ensures.ok, c.first_lane-lane.ensures, n) (added_is s c.args.owner c.self.invariant)
