use Rattle.std.proofs.Common.{subst, length}
use Rattle.ocm_disk.specs.Disk.{Torn, Follows}
use Rattle.ocm_disk.specs.Memory.{DiskState}
use Rattle.ocm_disk.specs.Past.{Leaves}
use Rattle.ocm_disk.proofs.gate_disks.GateDiskDisk.write_at.Goals as goal

pub returns-in_err-write_at-clause-crash : goal.returns-in_err-write_at-clause-crash
returns-in_err-write_at-clause-crash c =
    subst (λ (d : DiskState). Unit {0} → Follows (Torn c.args.place (length c.args.bytes.now)) (Leaves d.images) (Leaves c.write_at.new.self.images)) c.self.view_is c.write_at.ensures.crash

pub returns-clause-crash : goal.returns-clause-crash
returns-clause-crash c =
    subst (λ (d : DiskState). Unit {0} → Follows (Torn c.args.place (length c.args.bytes.now)) (Leaves d.images) (Leaves c.write_at.new.self.images)) c.self.view_is c.write_at.ensures.crash
