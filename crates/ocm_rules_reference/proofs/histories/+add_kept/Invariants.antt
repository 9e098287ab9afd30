use Rattle.std.proofs.Common.{length}
use Rattle.ocm_rules_reference.proofs.histories.+add_kept.Given as goal

abbrev pub decreases-add_kept : goal.decreases-add_kept
decreases-add_kept l = length l.history.now
