use Rattle.ocm_incoming.proofs.Removing.{IsRemoving}
use Rattle.ocm_incoming.proofs.inboxes.Inbox.removed.Given as goal

abbrev pub invariant-loop-number : goal.invariant-loop-number
invariant-loop-number l = IsRemoving l.mark l.group l.number l.count l.initial.self l.self

abbrev pub decreases-loop-number : goal.decreases-loop-number
decreases-loop-number l = l.number
