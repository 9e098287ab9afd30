use Rattle.std.proofs.Common.{◌≡◌, take}
use Rattle.ocm_outgoing.specs.Threads.{at_numbers}
use Rattle.ocm_outgoing.proofs.walks.copies.Given as goal

abbrev pub invariant-loop-number : goal.invariant-loop-number
invariant-loop-number l = l.copies ≡ at_numbers l.rows (take l.number-index l.numbers)
