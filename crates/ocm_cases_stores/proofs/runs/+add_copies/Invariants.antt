use Rattle.std.proofs.Common.{length}
use Rattle.ocm_cases_stores.proofs.runs.+add_copies.Given as goal

abbrev pub decreases-add_copies : goal.decreases-add_copies
decreases-add_copies l = length l.more.now
