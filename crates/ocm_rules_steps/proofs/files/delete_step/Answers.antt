use Rattle.ocm_rules_steps.proofs.FileSteps.{delete-step}
use Rattle.ocm_rules_steps.proofs.files.delete_step.Goals as goal

pub returns : goal.returns
returns c = delete-step
