use Rattle.std.proofs.Common.{length}
use Rattle.ocm_rules_reference.proofs.files.+left_at.Given as goal

abbrev pub decreases-left_at : goal.decreases-left_at
decreases-left_at l = length l.entries.now
