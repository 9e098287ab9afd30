use Rattle.std.proofs.Common.{◌∙◌}
use Rattle.ocm_core.proofs.Standing.{changes-after, reply-after}
use Rattle.ocm_core.proofs.server.Core.answer.Goals as goal

pub returns-clause-reply : goal.returns-clause-reply
returns-clause-reply c = λ g h. c.in_ok-planned.ensures.plans.reply ∙ reply-after c.args.self.now.state g c.args.ask.now h

pub returns-clause-changes : goal.returns-clause-changes
returns-clause-changes c = λ g h. c.in_ok-planned.ensures.plans.kept ∙ changes-after c.args.self.now.state g c.args.ask.now c.in_ok-planned.planned.reply h
