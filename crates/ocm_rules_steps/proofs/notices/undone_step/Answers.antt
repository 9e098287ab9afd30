use Rattle.ocm_rules_steps.proofs.NoticeSteps.{undone-step}
use Rattle.ocm_rules_steps.proofs.notices.undone_step.Goals as goal

pub returns : goal.returns
returns c = undone-step
