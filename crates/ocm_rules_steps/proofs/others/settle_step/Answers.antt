use Rattle.ocm_rules_steps.proofs.OtherSteps.{settle-acceptance, settle-request, settle-other}
use Rattle.ocm_rules_steps.proofs.others.settle_step.Goals as goal

pub returns-clause-acceptance : goal.returns-clause-acceptance
returns-clause-acceptance c = settle-acceptance

pub returns-clause-request : goal.returns-clause-request
returns-clause-request c = settle-request

pub returns-clause-other : goal.returns-clause-other
returns-clause-other c = settle-other
