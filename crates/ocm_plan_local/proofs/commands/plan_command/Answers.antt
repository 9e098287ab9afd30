use Rattle.std.proofs.Common.{None, refl, sym}
use Rattle.ocm_entry.specs.declared.refusals.Why.TheVariants.{Unauthorized}
use Rattle.ocm_rules.specs.Answers.{refused}
use Rattle.ocm_plan_local.proofs.LocalReplies.{answered}
use Rattle.ocm_plan_local.proofs.commands.plan_command.Goals as goal

pub returns-in_default : goal.returns-in_default
returns-in_default g c = c.refused.ensures.plans _ (answered c.args.tables.now.state c.args.key.now c.args.cmd.now None (refused Unauthorized) (sym c.in_default.ensures.number) refl)
