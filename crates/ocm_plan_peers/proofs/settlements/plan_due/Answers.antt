use Rattle.std.proofs.Common.{refl, ap}
use Rattle.ocm_entry.specs.declared.replies.Reply.TheVariants.{Due}
use Rattle.ocm_plan_peers.proofs.settlements.plan_due.Goals as goal

pub returns : goal.returns
returns c = c.only.ensures.plans _ (ap Due c.in_ok-messages.ensures) refl
