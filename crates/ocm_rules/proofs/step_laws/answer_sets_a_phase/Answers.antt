use Rattle.ocm_rules.proofs.Steps.{settle_record-step, settle_no_record-step}
use Rattle.ocm_rules.proofs.step_laws.answer_sets_a_phase.Goals as goal

pub returns-clause-acceptance : goal.returns-clause-acceptance
returns-clause-acceptance c = settle_record-step

pub returns-clause-other : goal.returns-clause-other
returns-clause-other c = settle_no_record-step
