use Rattle.std.proofs.Common.{ap, subst}
use Rattle.ocm_disk.specs.declared.memory.MemDisk.{MemDisk}
use Rattle.ocm_disk.specs.contracts.memory.MemDiskDisk.TheImpl.{ghosts}
use Rattle.ocm_journal.proofs.AppendStands.{stands_with}
use Rattle.ocm_journal.proofs.telling.Journal+MemDisk.fuse.Goals as goal

pub returns-clause-stands : goal.returns-clause-stands
returns-clause-stands c = λ label records s.
    let t = stands_with ghosts label records c.args.self.now c.fuse.new.self (ap (λ (d : MemDisk). ghosts.seen d) c.fuse.ensures) (λ x left. subst (λ (d : MemDisk). ghosts.may_leave d x) c.fuse.ensures left) s in
    record { image = t.0; selector = s.selector; start = t.1; gate = s.gate; durable = t.2 }
