use Rattle.ocm_law_world.proofs.Laws.{ended-later}
use Rattle.ocm_law_world.proofs.revocation.what_has_ended_stays_ended_in_every_run.Goals as goal

pub returns : goal.returns
returns c = ended-later
