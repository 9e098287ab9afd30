use Rattle.std.proofs.Common.{◌≡◌, ℕ, ◌≤◌, ◌<◌, ◌==◌, get_or, if◌then◌else◌}
use Rattle.ocm_disk.specs.Marks.{mark_at}
use Rattle.ocm_disk.proofs.marks.ruin.Given as goal

abbrev pub invariant-loop-place : goal.invariant-loop-place
invariant-loop-place l = record {
  ruined : (k : ℕ) → k < l.place → get_or l.bytes k 0 ≡ (if mark_at l.words k == 1 then 238 else get_or l.initial.bytes k 0);
  rest : (k : ℕ) → l.place ≤ k → get_or l.bytes k 0 ≡ get_or l.initial.bytes k 0;
}
