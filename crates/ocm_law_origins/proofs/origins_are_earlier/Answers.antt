use Rattle.ocm_law_origins.proofs.Histories.{origins-earlier}
use Rattle.ocm_law_origins.proofs.origins_are_earlier.Goals as goal

pub returns : goal.returns
returns c = origins-earlier
