use Rattle.ocm_law_serve.proofs.Written.{answers-are-on-disk}
use Rattle.ocm_law_serve.proofs.running.an_answer_is_on_the_disk.Goals as goal

pub returns : goal.returns
returns g c = answers-are-on-disk g.D.Disk g.C.Conn.sides
