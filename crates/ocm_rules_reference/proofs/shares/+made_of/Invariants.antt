use Rattle.std.proofs.Common.{length}
use Rattle.ocm_rules_reference.proofs.shares.+made_of.Given as goal

abbrev pub decreases-made_of : goal.decreases-made_of
decreases-made_of l = length l.entries.now
