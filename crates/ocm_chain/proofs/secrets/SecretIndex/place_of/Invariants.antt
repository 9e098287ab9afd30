use Rattle.std.proofs.Common.{◌-◌, ◌≤◌, length}
use Rattle.ocm_chain.specs.Indexes.{secret_cmp, AreBefore, AreBehind}
use Rattle.ocm_chain.specs.declared.secrets.SecretEntry.{SecretEntry}
use Rattle.ocm_chain.proofs.Cost.{IsPaid}
use Rattle.ocm_chain.proofs.secrets.SecretIndex.place_of.Given as goal

abbrev pub invariant-loop-low : goal.invariant-loop-low
invariant-loop-low g l = record {
  within : l.low ≤ l.high;
  bound : l.high ≤ length l.self.entries;
  before : AreBefore (λ (e : SecretEntry). secret_cmp e l.secret) l.self.entries l.low;
  behind : AreBehind (λ (e : SecretEntry). secret_cmp e l.secret) l.self.entries l.high;
  paid : IsPaid (length l.self.entries) (l.high - l.low) (l.steps - l.initial.steps);
  onward : l.initial.steps ≤ l.steps;
}

abbrev pub decreases-loop-low : goal.decreases-loop-low
decreases-loop-low g l = l.high - l.low
