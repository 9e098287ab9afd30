use Rattle.ocm_rules_steps.proofs.Refusals.{refused-entry, refused-lists}
use Rattle.ocm_rules_steps.proofs.refused.refusals_change_nothing.Goals as goal

pub returns-clause-entry : goal.returns-clause-entry
returns-clause-entry c = refused-entry

pub returns-clause-lists : goal.returns-clause-lists
returns-clause-lists c = refused-lists
