use Rattle.ocm_rules_steps.proofs.CommandSteps.{reshare_command-step}
use Rattle.ocm_rules_steps.proofs.commands.reshare_step.Goals as goal

pub returns : goal.returns
returns c = reshare_command-step
