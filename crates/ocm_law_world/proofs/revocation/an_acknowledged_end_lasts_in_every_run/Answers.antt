use Rattle.ocm_law_grants.proofs.Revoked.{declined-ended, expired-ended, ticked-ended, undone-ended, unshared-ended}
use Rattle.ocm_law_world.specs.World.{history_of}
use Rattle.ocm_law_world.proofs.Laws.{ended-later}
use Rattle.ocm_law_world.proofs.revocation.an_acknowledged_end_lasts_in_every_run.Goals as goal

pub returns-clause-unshared : goal.returns-clause-unshared
returns-clause-unshared c = λ w later host s key id i m reached run is there below.
    ended-later w later host i m reached run (_, is, there, unshared-ended host (history_of s) key id i below)

pub returns-clause-declined : goal.returns-clause-declined
returns-clause-declined c = λ w later host s text secret fresh id i m reached run is there names below.
    ended-later w later host i m reached run (_, is, there, declined-ended host (history_of s) text secret fresh id i names below)

pub returns-clause-undone : goal.returns-clause-undone
returns-clause-undone c = λ w later host s text secret fresh id i m reached run is there names below.
    ended-later w later host i m reached run (_, is, there, undone-ended host (history_of s) text secret fresh id i names below)

pub returns-clause-expired : goal.returns-clause-expired
returns-clause-expired c = λ w later host s key id end i m reached run is there passed below.
    ended-later w later host i m reached run (_, is, there, expired-ended host (history_of s) key id end i passed below)

pub returns-clause-ticked : goal.returns-clause-ticked
returns-clause-ticked c = λ w later host s clock id end i m reached run is there has passed below.
    ended-later w later host i m reached run (_, is, there, ticked-ended host (history_of s) clock id end i has passed below)
