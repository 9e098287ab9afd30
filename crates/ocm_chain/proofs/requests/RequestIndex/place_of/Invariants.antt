use Rattle.std.proofs.Common.{◌-◌, ◌≤◌, length}
use Rattle.ocm_chain.specs.Indexes.{request_cmp, AreBefore, AreBehind}
use Rattle.ocm_chain.specs.declared.requests.RequestEntry.{RequestEntry}
use Rattle.ocm_chain.proofs.Cost.{IsPaid}
use Rattle.ocm_chain.proofs.requests.RequestIndex.place_of.Given as goal

abbrev pub invariant-loop-low : goal.invariant-loop-low
invariant-loop-low g l = record {
  within : l.low ≤ l.high;
  bound : l.high ≤ length l.self.entries;
  before : AreBefore (λ (e : RequestEntry). request_cmp e l.parent l.sender_id) l.self.entries l.low;
  behind : AreBehind (λ (e : RequestEntry). request_cmp e l.parent l.sender_id) l.self.entries l.high;
  paid : IsPaid (length l.self.entries) (l.high - l.low) (l.steps - l.initial.steps);
  onward : l.initial.steps ≤ l.steps;
}

abbrev pub decreases-loop-low : goal.decreases-loop-low
decreases-loop-low g l = l.high - l.low
