use Rattle.ocm_rules.proofs.Steps.{settle-step}
use Rattle.ocm_rules.proofs.step_laws.answer_settles_a_message.Goals as goal

pub returns : goal.returns
returns c = settle-step
