use Rattle.ocm_law_origins.proofs.Bodies.{body-was_put}
use Rattle.ocm_law_origins.proofs.what_is_found_was_put.Goals as goal

pub returns : goal.returns
returns c = body-was_put
