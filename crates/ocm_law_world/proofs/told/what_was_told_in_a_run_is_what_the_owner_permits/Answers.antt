use Rattle.ocm_law_world.specs.World.{kept_at}
use Rattle.ocm_law_world.proofs.Hearing.{told-first, told-later}
use Rattle.ocm_law_world.proofs.Owning.{hears-run}
use Rattle.ocm_law_world.proofs.told.what_was_told_in_a_run_is_what_the_owner_permits.Goals as goal

pub returns-clause-first : goal.returns-clause-first
returns-clause-first c = λ w run host s n offer is. told-first (kept_at host s) n offer

pub returns-clause-later : goal.returns-clause-later
returns-clause-later c = λ w run host s n offer hears is there. told-later w host s n offer run is there (hears-run w.foreign w run host offer hears s is)
