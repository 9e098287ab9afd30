use Rattle.std.proofs.Common.{length}
use Rattle.ocm_journal_image.proofs.headers.+first_difference.Given as goal

abbrev pub decreases-first_difference : goal.decreases-first_difference
decreases-first_difference l = length l.text.now
