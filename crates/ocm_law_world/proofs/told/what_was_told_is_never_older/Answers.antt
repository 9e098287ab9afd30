use Rattle.ocm_law_world.proofs.Laws.{told-never_older}
use Rattle.ocm_law_world.proofs.told.what_was_told_is_never_older.Goals as goal

pub returns : goal.returns
returns c = told-never_older
