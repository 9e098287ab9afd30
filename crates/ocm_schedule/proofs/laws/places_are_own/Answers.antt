use Rattle.ocm_schedule.proofs.OwnLemmas.{places_are_own}
use Rattle.ocm_schedule.proofs.laws.places_are_own.Goals as goal

pub returns : goal.returns
returns c = places_are_own
