use Rattle.std.proofs.Common.{◌≡◌, ap, ◌∙◌, sym, List, ℕ, length, arith}
use Rattle.ocm_disk.specs.Marks.{mark_at}
use Rattle.ocm_disk.specs.Memory.{ImagesState}
use Rattle.ocm_disk.proofs.Changes.{holds_torn}
use Rattle.ocm_disk.proofs.Marking.{length-ruined}
use Rattle.ocm_disk.proofs.Tracking.{tracked_written, torn_written, all_replaced}
use Rattle.ocm_disk.proofs.images.Images.write.Goals as goal

pub invariant_of-self : goal.invariant_of-self
invariant_of-self c =
    let whole = all_replaced c.self.inside.marks.len c.mark.new.words c.self.inside.marks.items (omega arith) (omega arith) in
    let seen : c.self.inside.seen.items ≡ c.args.self.now.seen = ap (λ (v : ImagesState). v.seen) c.self.view_is in
    rw whole
    (tracked_written _ _ _ _ _ _ c.self.invariant c.args.place (length c.args.bytes.now) c.overwrite.new.all.items c.mark.new.words _ _ _
    (holds_torn c.args.place c.self.inside.seen.items c.args.bytes.now c.overwrite.new.all.items (omega (arith, ap length seen)) c.overwrite.ensures.items)
    c.min-self-inside.ensures c.max-self-inside.ensures (omega (arith, ap length seen)) (omega (arith, ap (λ (v : ImagesState). v.limit) c.self.view_is)) (omega arith)
    (λ k h. c.mark.ensures.before k h ∙ ap (λ (w : List ℕ). mark_at w k) c.deref_mut.ensures.value)
    (λ k h. c.mark.ensures.behind k (omega arith) ∙ ap (λ (w : List ℕ). mark_at w k) c.deref_mut.ensures.value))

pub returns-clause-torn : goal.returns-clause-torn
returns-clause-torn c =
    let whole = all_replaced c.self.inside.marks.len c.mark.new.words c.self.inside.marks.items (omega arith) (omega arith) in
    let seen : c.self.inside.seen.items ≡ c.args.self.now.seen = ap (λ (v : ImagesState). v.seen) c.self.view_is in
    rw whole
    (torn_written c.self.inside.marks.items c.mark.new.words c.self.inside.seen.items c.overwrite.new.all.items c.args.bytes.now c.args.self.now.torn c.args.place (omega (arith, ap length seen))
    (λ k ge lt. c.mark.ensures.marked k ge (omega arith))
    (λ k h. c.mark.ensures.before k h ∙ ap (λ (w : List ℕ). mark_at w k) c.deref_mut.ensures.value)
    (λ k h. c.mark.ensures.behind k (omega arith) ∙ ap (λ (w : List ℕ). mark_at w k) c.deref_mut.ensures.value)
    (ap (λ (v : ImagesState). v.torn) c.self.view_is)
    c.overwrite.ensures.items)

pub returns-clause-level : goal.returns-clause-level
returns-clause-level c =
    ap (λ (v : ImagesState). length v.torn) (sym c.self.view_is)
    ∙ length-ruined c.self.inside.marks.items 0 c.self.inside.seen.items
    ∙ ap (λ (v : ImagesState). length v.seen) c.self.view_is
