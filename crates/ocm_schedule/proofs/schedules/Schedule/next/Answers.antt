use Rattle.std.proofs.Common.{arith}
use Rattle.ocm_schedule.specs.Schedules.{State}
use Rattle.ocm_schedule.proofs.ScheduleLemmas.{first_known, begun_state_is, alone_is}
use Rattle.ocm_schedule.proofs.CapLemmas.{none_over, if_none_any, few_places}
use Rattle.ocm_schedule.proofs.StarveLemmas.{no_seat}
use Rattle.ocm_schedule.proofs.schedules.Schedule.next.Goals as goal

pub seat-host-requires-clause-few : goal.seat-host-requires-clause-few
seat-host-requires-clause-few c =
    let s : State = record { lanes = c.self.inside.lanes.items; hosts = c.self.inside.hosts.items } in
    let hosts = c.self.inside.hosts in
    omega (arith, few_places s c.in_ok-lane.lane c.self.invariant, hosts.ok.0, hosts.ok.1, hosts.small)

pub take_up-job-requires-clause-known : goal.take_up-job-requires-clause-known
take_up-job-requires-clause-known c =
    let s : State = record { lanes = c.self.inside.lanes.items; hosts = c.self.inside.hosts.items } in
    (first_known s c.in_ok-lane.lane c.args.now c.seat-host.result c.self.invariant c.seat-host.ensures.host).0

pub take_up-job-requires-clause-jobs : goal.take_up-job-requires-clause-jobs
take_up-job-requires-clause-jobs c =
    let s : State = record { lanes = c.self.inside.lanes.items; hosts = c.self.inside.hosts.items } in
    (first_known s c.in_ok-lane.lane c.args.now c.seat-host.result c.self.invariant c.seat-host.ensures.host).1

pub invariant_of-self : goal.invariant_of-self
invariant_of-self c =
    let s : State = record { lanes = c.self.inside.lanes.items; hosts = c.self.inside.hosts.items } in
    let u : State = record { lanes = c.seat-host.new.lanes.items; hosts = c.take_up-job.new.hosts.items } in
    let at = rw c.as_slice.ensures.value at c.in_ok-lane.ensures in
    begun_state_is s u c.in_ok-lane.lane c.seat-host.result c.args.now at.0 at.1 c.seat-host.ensures.host c.seat-host.ensures.begun c.take_up-job.ensures.begun c.self.invariant

pub returns-in_err-lane-clause-full : goal.returns-in_err-lane-clause-full
returns-in_err-lane-clause-full c =
    let s : State = record { lanes = c.self.inside.lanes.items; hosts = c.self.inside.hosts.items } in
    let none = none_over s.lanes c.args.now (rw c.as_slice.ensures.value at c.in_err-lane.ensures) in
    rw (← c.self.view_is) (if_none_any c.from_residual.result _ (λ l k n host x. no_seat c.args.now l k n host s (none l) x))

pub returns-clause-alone : goal.returns-clause-alone
returns-clause-alone c =
    let s : State = record { lanes = c.self.inside.lanes.items; hosts = c.self.inside.hosts.items } in
    let u : State = record { lanes = c.seat-host.new.lanes.items; hosts = c.take_up-job.new.hosts.items } in
    rw (← c.self.view_is) (alone_is s u c.in_ok-lane.lane c.args.now c.seat-host.result c.self.invariant c.seat-host.ensures.host c.take_up-job.ensures.begun)
