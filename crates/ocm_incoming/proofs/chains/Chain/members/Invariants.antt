use Rattle.ocm_incoming.proofs.Walking.{IsWalk}
use Rattle.ocm_incoming.proofs.chains.Chain.members.Given as goal

abbrev pub invariant-loop-number : goal.invariant-loop-number
invariant-loop-number l = IsWalk l.self.groups l.group l.number l.found.items

abbrev pub decreases-loop-number : goal.decreases-loop-number
decreases-loop-number l = l.number
