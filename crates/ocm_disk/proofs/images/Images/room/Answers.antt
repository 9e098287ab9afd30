use Rattle.std.proofs.Common.{◌≡◌, ◌-◌, ◌++◌, ap, ◌∙◌, replicate, List, ℕ, arith}
use Rattle.std.proofs.lemmas.List.{take_all}
use Rattle.ocm_disk.specs.Memory.{ImagesState}
use Rattle.ocm_disk.proofs.Tracking.{tracked_room, torn_room}
use Rattle.ocm_disk.proofs.images.Images.room.Goals as goal

pub invariant_of-self-2 : goal.invariant_of-self-2
invariant_of-self-2 c =
    let whole = take_all c.max-words.result c.self.inside.marks.items (omega arith) in
    let more : c.resize.new.self.items ≡ c.self.inside.marks.items ++ replicate (c.max-words.result - c.self.inside.marks.len) 0 =
    c.in_ok-resize.ensures.items ∙ ap (λ (l : List ℕ). l ++ replicate (c.max-words.result - c.self.inside.marks.len) 0) whole in
    tracked_room _ _ _ _ _ _ c.self.invariant _ _ _ _ _ c.in_ok-reserve.ensures.items c.in_ok-reserve-2.ensures.items more
    (omega (arith, c.in_ok-reserve.ensures.capacity, c.in_ok-reserve-2.ensures.capacity, c.in_ok-resize.ensures.len, c.max-words.ensures, c.len-3.ensures))

pub returns-clause-torn : goal.returns-clause-torn
returns-clause-torn c =
    let whole = take_all c.max-words.result c.self.inside.marks.items (omega arith) in
    let more : c.resize.new.self.items ≡ c.self.inside.marks.items ++ replicate (c.max-words.result - c.self.inside.marks.len) 0 =
    c.in_ok-resize.ensures.items ∙ ap (λ (l : List ℕ). l ++ replicate (c.max-words.result - c.self.inside.marks.len) 0) whole in
    torn_room c.self.inside.marks.items _ c.self.inside.seen.items _ _ _ (ap (λ (v : ImagesState). v.torn) c.self.view_is) c.in_ok-reserve.ensures.items more
