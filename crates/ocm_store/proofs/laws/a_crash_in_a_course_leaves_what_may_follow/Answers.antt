use Rattle.ocm_store.proofs.Runs.{courses-leave}
use Rattle.ocm_store.proofs.laws.a_crash_in_a_course_leaves_what_may_follow.Goals as goal

pub returns : goal.returns
returns g c = courses-leave g.D.Disk g.met.D.Disk.only_now
