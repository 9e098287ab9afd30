use Rattle.ocm_rules_steps.proofs.CommandSteps.{expire_command-step}
use Rattle.ocm_rules_steps.proofs.commands.expire_step.Goals as goal

pub returns : goal.returns
returns c = expire_command-step
