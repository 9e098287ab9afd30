use Rattle.std.proofs.Common.{ap}
use Rattle.ocm_disk.specs.Memory.{DiskState}
use Rattle.ocm_disk.proofs.Outcomes.{leaves_written_as}
use Rattle.ocm_disk.proofs.memory.MemDiskDisk.write_at.Goals as goal

pub returns-clause-crash : goal.returns-clause-crash
returns-clause-crash c tells =
    leaves_written_as c.args.place c.args.bytes.now c.self.inside.images c.args.self.now.images c.write.new.self (ap (λ (d : DiskState). d.images) c.self.view_is) c.requires.place c.write.ensures.level c.write.ensures.seen c.write.ensures.torn c.write.ensures.synced
