use Rattle.std.proofs.Common.{length}
use Rattle.ocm_rules_reference.proofs.users.+user_from.Given as goal

abbrev pub decreases-user_from : goal.decreases-user_from
decreases-user_from l = length l.users.now
