use Rattle.ocm_law_sessions.proofs.Surviving.{next-idle}
use Rattle.ocm_law_sessions.proofs.crashes.calls_without_change_leave_what_may_follow.Goals as goal

pub returns : goal.returns
returns c = next-idle
