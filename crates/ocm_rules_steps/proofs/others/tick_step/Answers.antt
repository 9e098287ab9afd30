use Rattle.ocm_rules_steps.proofs.OtherSteps.{tick-step}
use Rattle.ocm_rules_steps.proofs.others.tick_step.Goals as goal

pub returns : goal.returns
returns c = tick-step
