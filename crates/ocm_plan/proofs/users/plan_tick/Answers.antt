use Rattle.std.proofs.Common.{refl, sym, ◌∙◌, arith, rules}
use Rattle.ocm_entry.specs.declared.replies.Reply.TheVariants as replies
use Rattle.ocm_rules_steps.proofs.OtherSteps.{tick-step}
use Rattle.ocm_plan.proofs.Planning.{none-sent}
use Rattle.ocm_plan.proofs.users.plan_tick.Goals as goal

pub returns-then-clock-moment : goal.returns-then-clock-moment
returns-then-clock-moment c = c.silent.ensures.plans _ refl (search rules) refl (none-sent _ ∙ sym (tick-step c.args.tables.now.state c.args.clock replies.Done)) (omega (arith, c.moment.ensures, c.if-clock-moment.true)) refl

pub returns-else-clock-moment : goal.returns-else-clock-moment
returns-else-clock-moment c = c.only.ensures.plans _ refl (search rules)
