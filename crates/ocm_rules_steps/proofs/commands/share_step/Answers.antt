use Rattle.ocm_rules_steps.proofs.CommandSteps.{share-step}
use Rattle.ocm_rules_steps.proofs.commands.share_step.Goals as goal

pub returns : goal.returns
returns c = share-step
