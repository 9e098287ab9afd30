use Rattle.std.proofs.Common.{drop}
use Rattle.ocm_journal_image.specs.Layout.{AreRecords}
use Rattle.ocm_compact.proofs.images.are_records.Given as goal

abbrev pub invariant-loop-text : goal.invariant-loop-text
invariant-loop-text l = AreRecords (drop l.text-index l.items) → AreRecords l.items
