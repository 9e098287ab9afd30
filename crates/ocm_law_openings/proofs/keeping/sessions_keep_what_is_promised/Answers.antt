use Rattle.ocm_law_openings.proofs.Promises.{keeps}
use Rattle.ocm_law_openings.proofs.keeping.sessions_keep_what_is_promised.Goals as goal

pub returns : goal.returns
returns c = keeps
