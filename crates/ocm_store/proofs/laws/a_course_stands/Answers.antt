use Rattle.ocm_store.proofs.Runs.{courses-stand}
use Rattle.ocm_store.proofs.laws.a_course_stands.Goals as goal

pub returns : goal.returns
returns g c = courses-stand g.D.Disk
