use Rattle.ocm_law_repeats.proofs.Alone.{changed-alone}
use Rattle.ocm_law_repeats.proofs.a_changed_acts_on_later_records_alone.Goals as goal

pub returns : goal.returns
returns c = λ host g id secret serial perms fresh legal. changed-alone host g id secret serial perms fresh legal
