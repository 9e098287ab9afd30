use Rattle.std.proofs.Common.{refl}
use Rattle.ocm_law_origins.proofs.Histories.{origins-same}
use Rattle.ocm_law_origins.proofs.origins_go_on_by_an_entry.Goals as goal

pub returns-clause-next : goal.returns-clause-next
returns-clause-next c = λ host before e. refl

pub returns-clause-same : goal.returns-clause-same
returns-clause-same c = origins-same
