use Rattle.ocm_law_sessions.proofs.Surviving.{next-in_flight}
use Rattle.ocm_law_sessions.proofs.crashes.a_call_may_leave_what_stood_before.Goals as goal

pub returns : goal.returns
returns c = next-in_flight
