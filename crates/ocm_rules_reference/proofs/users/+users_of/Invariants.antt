use Rattle.std.proofs.Common.{length}
use Rattle.ocm_rules_reference.proofs.users.+users_of.Given as goal

abbrev pub decreases-users_of : goal.decreases-users_of
decreases-users_of l = length l.entries.now
