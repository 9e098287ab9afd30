use Rattle.ocm_rules_steps.proofs.CommandSteps.{limit_command-step}
use Rattle.ocm_rules_steps.proofs.commands.limit_step.Goals as goal

pub returns : goal.returns
returns c = limit_command-step
