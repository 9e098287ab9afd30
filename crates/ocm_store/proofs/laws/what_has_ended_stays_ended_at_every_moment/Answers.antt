use Rattle.ocm_store.proofs.Ended.{ended-stays-ended}
use Rattle.ocm_store.proofs.laws.what_has_ended_stays_ended_at_every_moment.Goals as goal

pub returns : goal.returns
returns c = ended-stays-ended
