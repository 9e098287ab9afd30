use Rattle.ocm_law_sessions.proofs.Surviving.{next-made, next-ended}
use Rattle.ocm_law_sessions.proofs.crashes.what_has_ended_stays_ended_over_a_crash.Goals as goal

pub returns-clause-there : goal.returns-clause-there
returns-clause-there c = next-made

pub returns-clause-ended : goal.returns-clause-ended
returns-clause-ended c = next-ended
