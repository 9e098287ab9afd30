use Rattle.ocm_rules.proofs.Steps.{undo-step}
use Rattle.ocm_rules.proofs.step_laws.undo_sets_a_state.Goals as goal

pub returns : goal.returns
returns c = undo-step
