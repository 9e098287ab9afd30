use Rattle.std.proofs.Common.{length}
use Rattle.ocm_rules_reference.proofs.files.+child_count.Given as goal

abbrev pub decreases-child_count : goal.decreases-child_count
decreases-child_count l = length l.nodes.now
