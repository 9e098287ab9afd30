use Rattle.std.proofs.Common.{arith}
use Rattle.ocm_journal_image.proofs.areas.read_records.Goals as goal

pub returns-clause-within : goal.returns-clause-within
returns-clause-within c = let e = rw c.in_default.is at c.in_ok-record.ensures in (omega (arith, c.loop-items.invariant.above), omega (arith, c.loop-items.invariant.fits, e.0))
