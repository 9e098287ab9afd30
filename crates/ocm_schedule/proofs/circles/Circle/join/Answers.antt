use Rattle.std.proofs.Common.{arith, sym, ◌∙◌}
use Rattle.ocm_schedule.proofs.CircleLemmas.{own_fit, join_is}
use Rattle.ocm_schedule.proofs.circles.Circle.join.Goals as goal

pub shift_to-requires-clause-few : goal.shift_to-requires-clause-few
shift_to-requires-clause-few c =
    let fit = own_fit c.self.inside.own.items c.self.inside.order.items c.in-Some.place.owner c.self.invariant in
    let few = rw (← c.self.view_is) at c.requires.few in
    omega (arith, fit, few)

pub returns-clause-joined : goal.returns-clause-joined
returns-clause-joined c =
    let r = join_is c.self.inside.own.items c.shift_to.new.own.items c.self.inside.order.items c.in-Some.place c.args.places.now
    (sym c.first.ensures ∙ c.in-Some.is) (rw (← c.self.view_is) at c.requires.known) c.self.invariant c.shift_to.ensures.own in
    rw (← c.self.view_is) (rw (c.append_if.ensures.items, c.has_places-is_new.ensures) r.0)
