use Rattle.ocm_rules_steps.proofs.FileSteps.{mkcol-step}
use Rattle.ocm_rules_steps.proofs.files.mkcol_step.Goals as goal

pub returns : goal.returns
returns c = mkcol-step
