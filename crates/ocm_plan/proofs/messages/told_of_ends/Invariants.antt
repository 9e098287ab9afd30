use Rattle.std.proofs.Common.{◌≡◌, take}
use Rattle.ocm_rules.specs.Messages.{at_end}
use Rattle.ocm_rules.specs.State.{view_in}
use Rattle.ocm_plan.proofs.messages.told_of_ends.Given as goal

abbrev pub invariant-loop-id : goal.invariant-loop-id
invariant-loop-id g l = l.sent ≡ at_end (view_in l.tables.state) (take l.id-index l.ids)
