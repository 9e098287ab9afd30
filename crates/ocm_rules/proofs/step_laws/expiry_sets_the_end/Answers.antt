use Rattle.ocm_rules.proofs.Steps.{expire-step}
use Rattle.ocm_rules.proofs.step_laws.expiry_sets_the_end.Goals as goal

pub returns : goal.returns
returns c = expire-step
