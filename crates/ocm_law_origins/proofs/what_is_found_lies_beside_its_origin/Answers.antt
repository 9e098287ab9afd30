use Rattle.ocm_law_origins.proofs.Bodies.{body-beside}
use Rattle.ocm_law_origins.proofs.what_is_found_lies_beside_its_origin.Goals as goal

pub returns : goal.returns
returns c = body-beside
