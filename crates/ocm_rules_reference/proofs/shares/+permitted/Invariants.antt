use Rattle.std.proofs.Common.{length}
use Rattle.ocm_rules_reference.proofs.shares.+permitted.Given as goal

abbrev pub decreases-permitted : goal.decreases-permitted
decreases-permitted l = length l.shares.now
