use Rattle.std.proofs.Common.{length}
use Rattle.ocm_rules_reference.proofs.files.+total_size.Given as goal

abbrev pub decreases-total_size : goal.decreases-total_size
decreases-total_size l = length l.nodes.now
