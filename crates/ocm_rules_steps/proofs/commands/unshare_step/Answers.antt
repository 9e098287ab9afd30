use Rattle.ocm_rules_steps.proofs.CommandSteps.{unshare_command-step}
use Rattle.ocm_rules_steps.proofs.commands.unshare_step.Goals as goal

pub returns : goal.returns
returns c = unshare_command-step
