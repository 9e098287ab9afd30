use Rattle.ocm_law_sessions.proofs.Surviving.{next-faulted}
use Rattle.ocm_law_sessions.proofs.crashes.a_fault_leaves_what_was_in_flight.Goals as goal

pub returns : goal.returns
returns c = next-faulted
