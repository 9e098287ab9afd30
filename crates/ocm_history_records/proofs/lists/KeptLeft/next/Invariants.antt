use Rattle.std.proofs.Common.{◌≡◌, ◌++◌, length}
use Rattle.ocm_history_records.specs.Packed.{all_of}
use Rattle.ocm_history_records.proofs.lists.KeptLeft.next.Given as goal

abbrev pub invariant-loop-kept : goal.invariant-loop-kept
invariant-loop-kept l = l.self-inside.block ++ all_of l.self-inside.blocks.now ++ l.self-inside.newest.now ≡ l.fn.self

abbrev pub decreases-loop-kept : goal.decreases-loop-kept
decreases-loop-kept l = length l.self-inside.blocks.now
