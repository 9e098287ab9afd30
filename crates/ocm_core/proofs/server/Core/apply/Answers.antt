use Rattle.ocm_core.specs.Standing.{IsPlanned}
use Rattle.ocm_core.proofs.Numbers.{numbered-after}
use Rattle.ocm_core.proofs.Reached.{planned-numbers, reached-after}
use Rattle.ocm_core.proofs.Standing.{IsAfter-answered}
use Rattle.ocm_core.proofs.server.Core.apply.Goals as goal

pub apply-requires-clause-numbers : goal.apply-requires-clause-numbers
apply-requires-clause-numbers c =
    rw c.into_parts-reply.ensures.sent
    (planned-numbers c.self.inside.tables.state c.args.planned c.self.invariant (rw c.self.view_is c.requires.planned))

pub invariant_of-self : goal.invariant_of-self
invariant_of-self c =
    let planned : IsPlanned c.self.inside.tables.state c.args.planned = rw c.self.view_is c.requires.planned in
    rw (c.apply.ensures.state, c.into_parts-reply.ensures.change, c.into_parts-reply.ensures.sent)
    (reached-after c.self.inside.tables.state planned.0 c.args.planned c.self.invariant planned.1)

pub returns-clause-after : goal.returns-clause-after
returns-clause-after c =
    rw (← c.self.view_is, c.apply.ensures.state, c.into_parts-reply.ensures.reply, c.into_parts-reply.ensures.change, c.into_parts-reply.ensures.sent)
    (λ g ask h plans. rw plans.change (IsAfter-answered c.self.inside.tables.state g ask c.args.planned.reply h plans.reply))

pub returns-clause-numbered : goal.returns-clause-numbered
returns-clause-numbered c =
    rw (← c.self.view_is, c.into_parts-reply.ensures.reply)
    (λ g ask h numbered plans.
    numbered-after c.self.inside.tables c.apply.new.self g ask c.args.planned h numbered plans
    (rw (c.into_parts-reply.ensures.change, c.into_parts-reply.ensures.sent) at c.apply.ensures.state)
    (rw c.into_parts-reply.ensures.change at c.apply.ensures.entries)
    (rw c.into_parts-reply.ensures.change at c.apply.ensures.origins))
