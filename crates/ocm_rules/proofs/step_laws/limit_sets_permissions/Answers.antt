use Rattle.ocm_rules.proofs.Steps.{limit-step}
use Rattle.ocm_rules.proofs.step_laws.limit_sets_permissions.Goals as goal

pub returns : goal.returns
returns c = limit-step
