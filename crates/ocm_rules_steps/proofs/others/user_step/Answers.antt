use Rattle.ocm_rules_steps.proofs.OtherSteps.{user-step}
use Rattle.ocm_rules_steps.proofs.others.user_step.Goals as goal

pub returns : goal.returns
returns c = user-step
