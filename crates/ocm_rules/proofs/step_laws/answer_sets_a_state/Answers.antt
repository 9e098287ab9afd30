use Rattle.ocm_rules.proofs.Steps.{settle_request-step, settle_no_request-step}
use Rattle.ocm_rules.proofs.step_laws.answer_sets_a_state.Goals as goal

pub returns-clause-request : goal.returns-clause-request
returns-clause-request c = settle_request-step

pub returns-clause-other : goal.returns-clause-other
returns-clause-other c = settle_no_request-step
