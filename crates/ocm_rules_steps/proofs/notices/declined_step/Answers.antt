use Rattle.ocm_rules_steps.proofs.NoticeSteps.{declined-step}
use Rattle.ocm_rules_steps.proofs.notices.declined_step.Goals as goal

pub returns : goal.returns
returns c = declined-step
