use Rattle.ocm_rules_steps.proofs.FileSteps.{put-step}
use Rattle.ocm_rules_steps.proofs.files.put_step.Goals as goal

pub returns : goal.returns
returns c = put-step
