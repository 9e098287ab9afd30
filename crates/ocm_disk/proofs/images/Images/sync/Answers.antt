use Rattle.std.proofs.Common.{ap, ◌∙◌, arith}
use Rattle.ocm_disk.specs.Memory.{ImagesState}
use Rattle.ocm_disk.proofs.Marking.{ruined_nowhere}
use Rattle.ocm_disk.proofs.Tracking.{tracked_whole_as, copied_as, all_replaced}
use Rattle.ocm_disk.proofs.images.Images.sync.Goals as goal

pub invariant_of-self : goal.invariant_of-self
invariant_of-self c =
    let whole = all_replaced c.self.inside.marks.len c.unmark.new.words c.self.inside.marks.items (omega arith) (omega arith) in
    let copy = copied_as _ _ _ _ _ _ c.self.invariant c.max-end.result c.len-2.result c.deref.result.now c.overwrite.new.all.items c.truncate.new.self.items (omega arith) c.deref.ensures.value (omega arith) c.overwrite.ensures.items c.truncate.ensures.items in
    rw whole
    (tracked_whole_as _ _ _ _ _ copy c.unmark.ensures (omega arith) (omega arith))

pub returns-clause-synced : goal.returns-clause-synced
returns-clause-synced c =
    copied_as _ _ _ _ _ _ c.self.invariant c.max-end.result c.len-2.result c.deref.result.now c.overwrite.new.all.items c.truncate.new.self.items (omega arith) c.deref.ensures.value (omega arith) c.overwrite.ensures.items c.truncate.ensures.items
    ∙ ap (λ (v : ImagesState). v.seen) c.self.view_is

pub returns-clause-torn : goal.returns-clause-torn
returns-clause-torn c =
    let whole = all_replaced c.self.inside.marks.len c.unmark.new.words c.self.inside.marks.items (omega arith) (omega arith) in
    rw whole
    (ruined_nowhere c.unmark.new.words 0 c.self.inside.seen.items c.unmark.ensures ∙ ap (λ (v : ImagesState). v.seen) c.self.view_is)
