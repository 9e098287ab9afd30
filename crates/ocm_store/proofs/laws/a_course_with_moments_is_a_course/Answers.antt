use Rattle.ocm_store.proofs.Ties.{courses-with-moments}
use Rattle.ocm_store.proofs.laws.a_course_with_moments_is_a_course.Goals as goal

pub returns : goal.returns
returns g c = courses-with-moments g.D.Disk
