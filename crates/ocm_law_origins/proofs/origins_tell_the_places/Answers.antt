use Rattle.ocm_law_origins.proofs.Histories.{origins-numbered}
use Rattle.ocm_law_origins.proofs.origins_tell_the_places.Goals as goal

pub returns : goal.returns
returns c = origins-numbered
