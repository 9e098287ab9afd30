use Rattle.ocm_rules_steps.proofs.NoticeSteps.{changed-step}
use Rattle.ocm_rules_steps.proofs.notices.changed_step.Goals as goal

pub returns : goal.returns
returns c = changed-step
