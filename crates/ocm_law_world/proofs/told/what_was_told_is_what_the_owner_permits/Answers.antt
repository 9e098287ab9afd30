use Rattle.std.proofs.Common.{ap}
use Rattle.ocm_rules.specs.Offers.{is_confirmed, told}
use Rattle.ocm_law_world.specs.World.{kept_at}
use Rattle.ocm_law_world.proofs.Hearing.{told-first, told-later, told-share}
use Rattle.ocm_law_world.proofs.Reached.{guest}
use Rattle.ocm_law_world.proofs.Steps.{ours-reached}
use Rattle.ocm_law_world.proofs.told.what_was_told_is_what_the_owner_permits.Goals as goal

pub returns-clause-first : goal.returns-clause-first
returns-clause-first c = λ w host s n offer reached is. told-first (kept_at host s) n offer

pub returns-clause-later : goal.returns-clause-later
returns-clause-later c = told-later

pub returns-clause-confirmed : goal.returns-clause-confirmed
returns-clause-confirmed c = λ w host s y n offer l reached is there confirmed at.
    told-share w offer (told (kept_at host s) n) y l at (guest w reached host s is n offer there (ap is_confirmed confirmed) (ours-reached w offer.owner.host y reached at))
