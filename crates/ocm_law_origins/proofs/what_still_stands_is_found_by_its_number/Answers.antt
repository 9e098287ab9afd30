use Rattle.ocm_law_origins.proofs.Bodies.{body-stands, body-gone, body-found}
use Rattle.ocm_law_origins.proofs.what_still_stands_is_found_by_its_number.Goals as goal

pub returns-clause-stands : goal.returns-clause-stands
returns-clause-stands c = body-stands

pub returns-clause-gone : goal.returns-clause-gone
returns-clause-gone c = body-gone

pub returns-clause-found : goal.returns-clause-found
returns-clause-found c = body-found
