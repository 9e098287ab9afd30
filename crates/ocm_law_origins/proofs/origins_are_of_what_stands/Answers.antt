use Rattle.ocm_law_origins.proofs.Histories.{origins-places}
use Rattle.ocm_law_origins.proofs.origins_are_of_what_stands.Goals as goal

pub returns : goal.returns
returns c = origins-places
