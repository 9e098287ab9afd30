use Rattle.std.proofs.Common.{◌≡◌, ◌∙◌, length, ap, arith}
use Rattle.std.specs.Prelude.{filter, is_some}
use Rattle.ocm_tree.specs.Tables.{somes}
use Rattle.ocm_tree.specs.Standings.{origins_of, numbers_in}
use Rattle.ocm_tree.proofs.Parted.{where-fewer}
use Rattle.ocm_tree.proofs.Slots.{somes-filter}
use Rattle.ocm_tree.proofs.SlotNumbers.{closed-in, length-closed}
use Rattle.ocm_tree.proofs.SlotTags.{tags-closed}
use Rattle.ocm_tree.proofs.trees.Tree.close_up.Goals as goal

pub close_up-requires : goal.close_up-requires
close_up-requires c = rw c.slots.ensures.slots c.self.invariant.same

pub drop_numbers-requires : goal.drop_numbers-requires
drop_numbers-requires c = rw c.slots-2.ensures.slots c.self.invariant.also

pub invariant_of-self : goal.invariant_of-self
invariant_of-self c =
    let slots = c.self.inside.table.slots in
    let numbers : c.close_up.new.self.numbers ≡ numbers_in slots c.self.inside.numbers.numbers = c.close_up.ensures.numbers ∙ ap (λ ss. numbers_in ss c.self.inside.numbers.numbers) c.slots.ensures.slots in
    let tags : c.drop_numbers.new.numbers.items ≡ numbers_in slots c.self.inside.tags.items = c.drop_numbers.ensures.numbers ∙ ap (λ ss. numbers_in ss c.self.inside.tags.items) c.slots-2.ensures.slots in
    rw (c.close_up-2.ensures.slots, numbers, tags) (record {
      same = length-closed slots c.self.inside.numbers.numbers c.self.invariant.same;
      also = length-closed slots c.self.inside.tags.items c.self.invariant.also;
      tagged = tags-closed slots c.self.inside.tags.items c.self.invariant.also c.self.invariant.tagged;
    })

pub returns-clause-nodes : goal.returns-clause-nodes
returns-clause-nodes c = rw (c.close_up-2.ensures.slots, ← c.self.view_is) (somes-filter c.self.inside.table.slots)

pub returns-clause-origins : goal.returns-clause-origins
returns-clause-origins c =
    let slots = c.self.inside.table.slots in
    let numbers : c.close_up.new.self.numbers ≡ numbers_in slots c.self.inside.numbers.numbers = c.close_up.ensures.numbers ∙ ap (λ ss. numbers_in ss c.self.inside.numbers.numbers) c.slots.ensures.slots in
    rw (c.close_up-2.ensures.slots, numbers, ← c.self.view_is)
    (ap (λ ns. origins_of ns (numbers_in (filter is_some slots) (numbers_in slots c.self.inside.numbers.numbers))) (somes-filter slots)
    ∙ ap (origins_of (somes slots)) (closed-in slots c.self.inside.numbers.numbers c.self.invariant.same))

pub returns-clause-room : goal.returns-clause-room
returns-clause-room c =
    let fewer = where-fewer is_some c.slots-2.result.now c.self.inside.tags.items in
    let kept = ap length c.drop_numbers.ensures.numbers in
    rw (← c.self.view_is) (omega (arith, fewer, kept, c.drop_numbers.ensures.capacity, c.close_up.ensures.room, c.close_up-2.ensures.room))
