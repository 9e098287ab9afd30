use Rattle.std.proofs.Common.{length}
use Rattle.ocm_rules_reference.proofs.shares.+share_from.Given as goal

abbrev pub decreases-share_from : goal.decreases-share_from
decreases-share_from l = length l.shares.now
