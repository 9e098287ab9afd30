use Rattle.std.proofs.Common.{arith}
use Rattle.ocm_schedule.specs.declared.places.Place.{Place}
use Rattle.ocm_schedule.specs.Lanes.{Queue}
use Rattle.ocm_schedule.proofs.LaneLemmas.{joined_is, owned_more, length_snoc}
use Rattle.ocm_schedule.proofs.lanes.Lane.join.Goals as goal

pub invariant_of-self-2 : goal.invariant_of-self-2
invariant_of-self-2 c =
    let l = c.self.inside in
    let q : Queue = record { resting = l.resting; circle = l.circle.lines; latest = l.latest; busy = l.busy; seats = l.seats; pause = l.pause } in
    let p : Place = record { from = c.max-from.result; owner = c.args.owner; host = c.args.host } in
    let ok = c.in_ok-reserve.ensures.ok in
    rw (c.in_ok-push_back.ensures.items) (
      rw (c.reserve.ensures.lines, c.max-from.ensures) (joined_is q c.args.owner c.args.host c.args.now c.self.invariant.0),
      owned_more l.circle.owners c.reserve.new.self.owners l.resting p c.reserve.ensures.owners ok.0 c.self.invariant.1,
      omega (arith, ok.1, c.len.ensures.value, length_snoc l.resting p),
    )
