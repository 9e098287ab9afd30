use Rattle.ocm_rules.proofs.Steps.{other-shares, other-records, other-requests, other-messages}
use Rattle.ocm_rules.proofs.step_laws.other_asks_leave_rows.Goals as goal

pub returns-clause-shares : goal.returns-clause-shares
returns-clause-shares c = other-shares

pub returns-clause-records : goal.returns-clause-records
returns-clause-records c = other-records

pub returns-clause-requests : goal.returns-clause-requests
returns-clause-requests c = other-requests

pub returns-clause-messages : goal.returns-clause-messages
returns-clause-messages c = other-messages
