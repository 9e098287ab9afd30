use Rattle.std.proofs.Common.{Some, None, option_copied, subst, ◌∙◌}
use Rattle.ocm_core.proofs.Numbers.{TellsBody, found-with, tells-body}
use Rattle.ocm_core.proofs.server.Core.standing.Goals as goal

pub returns-in-Some-clause-value : goal.returns-in-Some-clause-value
returns-in-Some-clause-value c =
    rw (← c.self.view_is)
    (λ few. c.body_of.ensures ∙ found-with c.self.inside.tables c.args.planned.now c.args.entry c.change.result.now (Some c.in-Some.standing.now) c.change.ensures (c.in-Some.ensures.any few))

pub returns-in-Some-clause-history : goal.returns-in-Some-clause-history
returns-in-Some-clause-history c =
    subst (TellsBody c.args.planned.now c.args.entry (option_copied c.body_of.result)) c.self.view_is
    (tells-body c.self.inside.tables c.args.planned.now c.args.entry (option_copied c.body_of.result)
    (λ few. c.body_of.ensures ∙ found-with c.self.inside.tables c.args.planned.now c.args.entry c.change.result.now (Some c.in-Some.standing.now) c.change.ensures (c.in-Some.ensures.any few)))

pub returns-in-None-clause-value : goal.returns-in-None-clause-value
returns-in-None-clause-value c =
    rw (← c.self.view_is) (λ few. found-with c.self.inside.tables c.args.planned.now c.args.entry c.change.result.now None c.change.ensures (c.in-None.ensures.any few))

pub returns-in-None-clause-history : goal.returns-in-None-clause-history
returns-in-None-clause-history c =
    subst (TellsBody c.args.planned.now c.args.entry None) c.self.view_is
    (tells-body c.self.inside.tables c.args.planned.now c.args.entry None
    (λ few. found-with c.self.inside.tables c.args.planned.now c.args.entry c.change.result.now None c.change.ensures (c.in-None.ensures.any few)))
