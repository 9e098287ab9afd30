use Rattle.std.proofs.Common.{◌≡◌, ℕ, ◌≤◌, ◌<◌, ◌*◌}
use Rattle.ocm_disk.specs.Marks.{mark_at}
use Rattle.ocm_disk.proofs.marks.mark.Given as goal

abbrev pub invariant-loop-at : goal.invariant-loop-at
invariant-loop-at l = record {
  marked : (place : ℕ) → l.from ≤ place → place < l.to → place < 8 * l.at → mark_at l.words place ≡ 1;
  before : (place : ℕ) → place < l.from → mark_at l.words place ≡ mark_at l.initial.words place;
  behind : (place : ℕ) → l.to ≤ place → mark_at l.words place ≡ mark_at l.initial.words place;
}
