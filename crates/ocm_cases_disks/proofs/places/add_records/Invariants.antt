use Rattle.std.proofs.Common.{length}
use Rattle.ocm_cases_disks.proofs.places.add_records.Given as goal

abbrev pub decreases-loop-record : goal.decreases-loop-record
decreases-loop-record l = length l.left
