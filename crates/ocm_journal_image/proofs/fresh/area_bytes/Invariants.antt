use Rattle.std.proofs.Common.{◌≡◌, ◌++◌, ◌∷◌, [], drop, replicate}
use Rattle.ocm_journal_image.specs.Layout.{blocks}
use Rattle.ocm_journal_image.proofs.fresh.area_bytes.Given as goal

abbrev pub invariant-loop-record : goal.invariant-loop-record
invariant-loop-record l = l.bytes ++ blocks (drop l.record-index l.record-items) ≡ replicate l.before 0 ++ 2 ∷ [] ++ blocks l.records
