use Rattle.std.proofs.Common.{subst}
use Rattle.ocm_disk.specs.Disk.{Cut, Follows}
use Rattle.ocm_disk.specs.Memory.{DiskState}
use Rattle.ocm_disk.specs.Past.{Leaves}
use Rattle.ocm_disk.proofs.gate_disks.GateDiskDisk.cut.Goals as goal

pub returns-clause-crash : goal.returns-clause-crash
returns-clause-crash c =
    subst (λ (d : DiskState). Unit {0} → Follows (Cut c.args.len) (Leaves d.images) (Leaves c.cut.new.self.images)) c.self.view_is c.cut.ensures.crash
