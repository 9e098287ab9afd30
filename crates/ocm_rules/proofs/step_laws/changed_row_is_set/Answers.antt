use Rattle.ocm_rules.proofs.Steps.{changed_at-set}
use Rattle.ocm_rules.proofs.step_laws.changed_row_is_set.Goals as goal

pub returns-clause-shares : goal.returns-clause-shares
returns-clause-shares c = changed_at-set

pub returns-clause-records : goal.returns-clause-records
returns-clause-records c = changed_at-set

pub returns-clause-requests : goal.returns-clause-requests
returns-clause-requests c = changed_at-set

pub returns-clause-messages : goal.returns-clause-messages
returns-clause-messages c = changed_at-set
