use Rattle.std.proofs.Common.{ap, ◌∙◌, List, ℕ, arith}
use Rattle.ocm_disk.specs.Marks.{ruined}
use Rattle.ocm_disk.proofs.Tracking.{tracked_ruined_as, all_replaced}
use Rattle.ocm_disk.proofs.images.Images.ruin.Goals as goal

pub invariant_of-self : goal.invariant_of-self
invariant_of-self c =
    tracked_ruined_as _ _ _ _ _ _ c.self.invariant _
    (all_replaced c.self.inside.seen.len c.ruin.new.bytes c.self.inside.seen.items (omega arith) (omega arith)
    ∙ c.ruin.ensures
    ∙ ap (λ (l : List ℕ). ruined l c.deref_mut.result.now) c.deref.ensures.value
    ∙ ap (ruined c.self.inside.marks.items) c.deref_mut.ensures.value)
