use Rattle.ocm_law_sessions.proofs.Surviving.{next-changed}
use Rattle.ocm_law_sessions.proofs.crashes.a_change_in_flight_may_be_kept.Goals as goal

pub returns : goal.returns
returns c = next-changed
