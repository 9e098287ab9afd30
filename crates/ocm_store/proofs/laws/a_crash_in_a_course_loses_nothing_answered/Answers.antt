use Rattle.ocm_store.proofs.Runs.{courses-keep}
use Rattle.ocm_store.proofs.laws.a_crash_in_a_course_loses_nothing_answered.Goals as goal

pub returns : goal.returns
returns g c = courses-keep g.D.Disk g.met.D.Disk.only_now
