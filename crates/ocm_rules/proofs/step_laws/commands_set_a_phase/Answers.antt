use Rattle.ocm_rules.proofs.Steps.{accept-step, decline_record-step}
use Rattle.ocm_rules.proofs.step_laws.commands_set_a_phase.Goals as goal

pub returns-clause-accepted : goal.returns-clause-accepted
returns-clause-accepted c = accept-step

pub returns-clause-declined : goal.returns-clause-declined
returns-clause-declined c = decline_record-step
