use Rattle.std.proofs.Common.{◌≡◌, take}
use Rattle.ocm_history_records.proofs.blocks.Block.of.Given as goal

abbrev pub invariant-loop-record : goal.invariant-loop-record
invariant-loop-record l = l.block ≡ take l.record-index l.records
