use Rattle.ocm_law_repeats.proofs.Removed.{unshared-changes}
use Rattle.ocm_law_repeats.proofs.an_unshared_changes_later_records.Goals as goal

pub returns : goal.returns
returns c = λ host g id secret fresh legal. unshared-changes host g id secret fresh legal
