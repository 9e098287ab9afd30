use Rattle.std.proofs.Common.{◌≡◌, take}
use Rattle.ocm_letters.specs.Mailings.{changed_to_guests}
use Rattle.ocm_rules.specs.State.{view_in}
use Rattle.ocm_plan.proofs.messages.told_of_perms.Given as goal

abbrev pub invariant-loop-new : goal.invariant-loop-new
invariant-loop-new g l = l.sent ≡ changed_to_guests (view_in l.tables.state).shares l.serial (take l.new-index l.told)
