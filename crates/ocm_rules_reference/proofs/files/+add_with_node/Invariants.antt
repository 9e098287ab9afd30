use Rattle.std.proofs.Common.{length}
use Rattle.ocm_rules_reference.proofs.files.+add_with_node.Given as goal

abbrev pub decreases-add_with_node : goal.decreases-add_with_node
decreases-add_with_node l = length l.others.now
