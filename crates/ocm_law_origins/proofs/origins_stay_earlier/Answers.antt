use Rattle.ocm_law_origins.proofs.Earlier.{after-earlier}
use Rattle.ocm_law_origins.proofs.origins_stay_earlier.Goals as goal

pub returns : goal.returns
returns c = after-earlier
