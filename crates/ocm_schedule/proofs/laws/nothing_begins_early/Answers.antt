use Rattle.ocm_schedule.proofs.KeptLemmas.{nothing_begins_early}
use Rattle.ocm_schedule.proofs.laws.nothing_begins_early.Goals as goal

pub returns : goal.returns
returns c = nothing_begins_early
