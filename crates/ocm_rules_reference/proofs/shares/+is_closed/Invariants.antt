use Rattle.std.proofs.Common.{length}
use Rattle.ocm_rules_reference.proofs.shares.+is_closed.Given as goal

abbrev pub decreases-is_closed : goal.decreases-is_closed
decreases-is_closed l = length l.entries.now
