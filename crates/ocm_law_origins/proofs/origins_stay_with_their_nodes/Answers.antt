use Rattle.std.specs.Prelude.{◌≡◌, Some}
use Rattle.ocm_law_origins.proofs.Beside.{places-after, beside-after}
use Rattle.ocm_law_origins.proofs.origins_stay_with_their_nodes.Goals as goal

pub returns-clause-places : goal.returns-clause-places
returns-clause-places c = places-after

pub returns-clause-put : goal.returns-clause-put
returns-clause-put c = λ put. beside-after (λ k standing. put k ≡ Some standing)
