use Rattle.ocm_store.proofs.Ties.{courses-tie}
use Rattle.ocm_store.proofs.laws.a_crash_since_a_moment_loses_nothing_done_by_then.Goals as goal

pub returns : goal.returns
returns g c = courses-tie g.D.Disk g.met.D.Disk.only_now
