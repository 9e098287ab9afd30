use Rattle.std.proofs.Common.{ap}
use Rattle.ocm_disk.specs.Memory.{DiskState}
use Rattle.ocm_disk.proofs.Outcomes.{leaves_cut_as}
use Rattle.ocm_disk.proofs.memory.MemDiskDisk.cut.Goals as goal

pub returns-clause-crash : goal.returns-clause-crash
returns-clause-crash c tells =
    leaves_cut_as c.args.len c.self.inside.images c.args.self.now.images c.cut.new.self (ap (λ (d : DiskState). d.images) c.self.view_is) c.cut.ensures.seen c.cut.ensures.torn c.cut.ensures.synced
