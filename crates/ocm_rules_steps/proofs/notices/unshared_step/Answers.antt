use Rattle.ocm_rules_steps.proofs.NoticeSteps.{unshared-step}
use Rattle.ocm_rules_steps.proofs.notices.unshared_step.Goals as goal

pub returns : goal.returns
returns c = unshared-step
