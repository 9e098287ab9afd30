use Rattle.std.proofs.Common.{length}
use Rattle.ocm_rules_reference.proofs.files.+nodes_of.Given as goal

abbrev pub decreases-nodes_of : goal.decreases-nodes_of
decreases-nodes_of l = length l.entries.now
