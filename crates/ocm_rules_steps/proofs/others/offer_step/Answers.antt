use Rattle.ocm_rules_steps.proofs.OtherSteps.{offer-step}
use Rattle.ocm_rules_steps.proofs.others.offer_step.Goals as goal

pub returns : goal.returns
returns c = offer-step
