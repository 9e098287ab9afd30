use Rattle.std.proofs.Common.{◌+◌, ◌-◌, length, cond}
use Rattle.std.specs.Prelude.{nat_eq}
use Rattle.ocm_rules.specs.declared.rows.Subject.{Subject}
use Rattle.ocm_outgoing.specs.declared.rows.Thread.{Thread}
use Rattle.ocm_outgoing.specs.Threads.{IsWalk}
use Rattle.ocm_outgoing.proofs.walks.first_waiting.Given as goal

abbrev pub invariant-loop-number : goal.invariant-loop-number
invariant-loop-number l = record {
  walk : (s : Subject) × (t : Thread) × IsWalk l.rows s t l.number;
  walks : (s : Subject) (t : Thread) → IsWalk l.rows s t l.fn.from → IsWalk l.rows s t l.number;
}

abbrev pub decreases-loop-number : goal.decreases-loop-number
decreases-loop-number l = cond (nat_eq l.number 0) 0 (length l.rows + 1 - l.number)
