use Rattle.ocm_rules_steps.proofs.CommandSteps.{decline_command-step}
use Rattle.ocm_rules_steps.proofs.commands.decline_step.Goals as goal

pub returns : goal.returns
returns c = decline_command-step
