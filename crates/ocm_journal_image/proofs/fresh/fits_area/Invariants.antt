use Rattle.std.proofs.Common.{◌≡◌, ◌+◌, drop}
use Rattle.ocm_journal_image.specs.Layout.{blocks_size}
use Rattle.ocm_journal_image.proofs.fresh.fits_area.Given as goal

abbrev pub invariant-loop-record : goal.invariant-loop-record
invariant-loop-record l = 2 + blocks_size l.records + l.left ≡ blocks_size (drop l.record-index l.record-items) + l.area
