use Rattle.ocm_rules_steps.proofs.CommandSteps.{accept_command-step}
use Rattle.ocm_rules_steps.proofs.commands.accept_step.Goals as goal

pub returns : goal.returns
returns c = accept_command-step
