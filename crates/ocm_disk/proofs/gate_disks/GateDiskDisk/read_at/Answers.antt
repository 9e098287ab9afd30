use Rattle.std.proofs.Common.{subst}
use Rattle.ocm_disk.specs.Disk.{Only}
use Rattle.ocm_disk.specs.Memory.{DiskState}
use Rattle.ocm_disk.specs.Past.{Leaves}
use Rattle.ocm_disk.proofs.gate_disks.GateDiskDisk.read_at.Goals as goal

pub returns-clause-settled : goal.returns-clause-settled
returns-clause-settled c =
    let new = c.read_at.new.self in
    subst (λ (d : DiskState). Unit {0} → Only d.images.seen (Leaves d.images) → Only new.images.seen (Leaves new.images)) c.self.view_is c.read_at.ensures.settled
