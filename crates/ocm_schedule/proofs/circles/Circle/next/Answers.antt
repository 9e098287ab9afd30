use Rattle.ocm_schedule.proofs.CircleLemmas.{turn_is}
use Rattle.ocm_schedule.proofs.circles.Circle.next.Goals as goal

pub returns-clause-turned : goal.returns-clause-turned
returns-clause-turned c =
    let order = rw c.in_ok-owner.was at c.pop_front.ensures.items in
    let r = turn_is c.self.inside.own.items c.take_first-place.new.own.items c.self.inside.order.items c.pop_front.new.self.items c.in_ok-owner.owner
    order c.self.invariant c.take_first-place.ensures.rest in
    rw (← c.self.view_is) (rw (c.append_if.ensures.items, c.has_places-has_more.ensures) r.0)
