use Rattle.ocm_rules_steps.proofs.NoticeSteps.{child-step}
use Rattle.ocm_rules_steps.proofs.notices.child_step.Goals as goal

pub returns : goal.returns
returns c = child-step
