use Rattle.ocm_rules_steps.proofs.FileSteps.{carry-step}
use Rattle.ocm_rules_steps.proofs.files.carry_step.Goals as goal

pub returns : goal.returns
returns c = carry-step
