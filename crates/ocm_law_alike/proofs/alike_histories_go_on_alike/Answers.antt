use Rattle.ocm_law_alike.proofs.Going.{further-alike, given-alike}
use Rattle.ocm_law_alike.proofs.alike_histories_go_on_alike.Goals as goal

pub returns-clause-given : goal.returns-clause-given
returns-clause-given c = given-alike

pub returns-clause-alike : goal.returns-clause-alike
returns-clause-alike c = further-alike
