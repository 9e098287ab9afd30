use Rattle.ocm_law_repeats.proofs.Told.{changed-changes}
use Rattle.ocm_law_repeats.proofs.a_changed_changes_later_records.Goals as goal

pub returns : goal.returns
returns c = λ host g id secret serial perms fresh legal. changed-changes host g id secret serial perms fresh legal
