use Rattle.ocm_rules_steps.proofs.CommandSteps.{undo_command-step}
use Rattle.ocm_rules_steps.proofs.commands.undo_step.Goals as goal

pub returns : goal.returns
returns c = undo_command-step
