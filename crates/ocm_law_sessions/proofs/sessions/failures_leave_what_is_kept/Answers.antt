use Rattle.ocm_law_sessions.proofs.Replying.{kept-failure, lean-failure}
use Rattle.ocm_law_sessions.proofs.sessions.failures_leave_what_is_kept.Goals as goal

pub returns-clause-kept : goal.returns-clause-kept
returns-clause-kept c = kept-failure

pub returns-clause-lean : goal.returns-clause-lean
returns-clause-lean c = lean-failure
