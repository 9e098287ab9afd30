use Rattle.ocm_law_world.specs.World.{kept_at}
use Rattle.ocm_law_world.proofs.Hearing.{told-first}
use Rattle.ocm_law_network.proofs.Reached.{log-later, log-never_older, log-told}
use Rattle.ocm_law_network.proofs.laws.what_was_told_in_the_network_is_what_the_owner_permits.Goals as goal

pub returns-clause-never_older : goal.returns-clause-never_older
returns-clause-never_older c = log-never_older

pub returns-clause-first : goal.returns-clause-first
returns-clause-first c = λ foreign log host s n offer is theirs there. told-first (kept_at host s) n offer

pub returns-clause-later : goal.returns-clause-later
returns-clause-later c = log-later

pub returns-clause-in_log : goal.returns-clause-in_log
returns-clause-in_log c = log-told
