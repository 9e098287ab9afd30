use Rattle.ocm_law_origins.proofs.Histories.{origins-still}
use Rattle.ocm_law_origins.proofs.origins_tell_what_still_stands.Goals as goal

pub returns : goal.returns
returns c = origins-still
