use Rattle.std.proofs.Common.{sym, subst}
use Rattle.ocm_disk.specs.Disk.{Only}
use Rattle.ocm_disk.specs.Memory.{DiskState}
use Rattle.ocm_disk.specs.Past.{Leaves}
use Rattle.ocm_disk.proofs.memory.MemDiskDisk.read_at.Goals as goal

pub returns-in_err-burn-clause-settled : goal.returns-in_err-burn-clause-settled
returns-in_err-burn-clause-settled c = λ tells only. subst (λ (d : DiskState). Only d.images.seen (Leaves d.images)) (sym c.self.view_is) only

pub returns-clause-settled : goal.returns-clause-settled
returns-clause-settled c = λ tells only. subst (λ (d : DiskState). Only d.images.seen (Leaves d.images)) (sym c.self.view_is) only
