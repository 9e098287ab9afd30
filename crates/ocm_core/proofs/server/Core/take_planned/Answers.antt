use Rattle.std.proofs.Common.{true, false, sym, ◌∙◌}
use Rattle.ocm_core.proofs.Taking.{applied-after, planned-changes}
use Rattle.ocm_core.proofs.server.Core.take_planned.Goals as goal

pub returns-then-not-changes-clause-taken : goal.returns-then-not-changes-clause-taken
returns-then-not-changes-clause-taken c = planned-changes c.args.self.now.state c.args.planned false (sym c.if-not-changes.true ∙ c.changes.ensures)

pub returns-in-Ok-clause-taken : goal.returns-in-Ok-clause-taken
returns-in-Ok-clause-taken c = planned-changes c.args.self.now.state c.args.planned true (sym c.if-not-changes.false ∙ c.changes.ensures)

pub returns-in-Ok-clause-goes_on : goal.returns-in-Ok-clause-goes_on
returns-in-Ok-clause-goes_on c = λ g ask after plans is.
    applied-after c.args.self.now.state c.room.new.self.state c.apply.new.self.state c.args.planned c.apply.result c.room.ensures.state c.apply.ensures.reply c.apply.ensures.after g ask after plans
