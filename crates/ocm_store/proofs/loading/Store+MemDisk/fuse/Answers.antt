use Rattle.std.proofs.Common.{◌==◌, ◌∙◌, refl, ap, subst}
use Rattle.ocm_disk.specs.declared.memory.MemDisk.{MemDisk}
use Rattle.ocm_disk.specs.contracts.memory.MemDiskDisk.TheImpl.{ghosts}
use Rattle.ocm_store.proofs.Opened.{fused-stands}
use Rattle.ocm_store.proofs.loading.Store+MemDisk.fuse.Goals as goal

pub returns-clause-stands : goal.returns-clause-stands
returns-clause-stands c = λ k h s.
    fused-stands ghosts c.args.self.now _ k h refl refl c.fuse.ensures.shape (ap (λ (d : MemDisk). ghosts.seen d) c.fuse.ensures.disk) (ap (λ (d : MemDisk). ghosts.count d) c.fuse.ensures.disk)
    (λ x left. subst (λ (d : MemDisk). ghosts.may_leave d x) c.fuse.ensures.disk left) c.fuse.ensures.stands s

pub returns-clause-live : goal.returns-clause-live
returns-clause-live c = λ host live h. record { first = ap (λ s. s == 512) c.fuse.ensures.shape.2 ∙ h.first; form = c.fuse.ensures.shape.1 ∙ h.form; holds = c.fuse.ensures.stands host live.records h.holds }
