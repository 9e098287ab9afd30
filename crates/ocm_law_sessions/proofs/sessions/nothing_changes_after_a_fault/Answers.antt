use Rattle.ocm_law_sessions.proofs.Replying.{fault-told, fault-stays, fault-keeps}
use Rattle.ocm_law_sessions.proofs.sessions.nothing_changes_after_a_fault.Goals as goal

pub returns-clause-told : goal.returns-clause-told
returns-clause-told c = fault-told

pub returns-clause-fault : goal.returns-clause-fault
returns-clause-fault c = fault-stays

pub returns-clause-kept : goal.returns-clause-kept
returns-clause-kept c = fault-keeps
