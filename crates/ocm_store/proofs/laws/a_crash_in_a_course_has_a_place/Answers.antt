use Rattle.ocm_store.proofs.Runs.{moments-have-places}
use Rattle.ocm_store.proofs.laws.a_crash_in_a_course_has_a_place.Goals as goal

pub returns : goal.returns
returns c = moments-have-places
