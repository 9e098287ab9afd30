use Rattle.std.proofs.Common.{◌≡◌, ◌∙◌, ◌++◌, ◌∷◌, [], slice_set, length-append, Some, None, sym, ap, arith}
use Rattle.std.proofs.lemmas.List.{length-set}
use Rattle.ocm_rules.specs.Files.{with_node}
use Rattle.ocm_rules.specs.State.{node_at}
use Rattle.ocm_tree.specs.Tables.{somes, slot_of}
use Rattle.ocm_tree.specs.Standings.{origins_of, numbers_in}
use Rattle.ocm_tree.proofs.Absent.{index_of-absent}
use Rattle.ocm_tree.proofs.LimitNumbers.{limit_of-few, limit_of-light}
use Rattle.ocm_tree.proofs.OriginLists.{origins-with, origins-push}
use Rattle.ocm_tree.proofs.Slots.{in-slot, none-slot, somes-push, somes-set}
use Rattle.ocm_tree.proofs.SlotNumbers.{length-in, push-in, set-in}
use Rattle.ocm_tree.specs.Tags.{parent_tag, tag_of}
use Rattle.ocm_tree.proofs.SlotTags.{tags-push, tags-set}
use Rattle.ocm_tree.proofs.TableKept.{push-somes}
use Rattle.ocm_tree.proofs.trees.Tree.put.Goals as goal

pub replace-requires : goal.replace-requires
replace-requires c =
    let slots = c.self.inside.table.slots in
    let found : slot_of slots c.args.planned.place ≡ Some c.in-Some.index = rw (← c.place.ensures) (sym c.slot_of.ensures ∙ c.in-Some.is) in
    let within = (in-slot slots c.args.planned.place c.in-Some.index found).1.within in
    omega (arith, within, c.self.invariant.same)

pub replace-requires-in-Some-clause-found : goal.replace-requires-in-Some-clause-found
replace-requires-in-Some-clause-found c = rw (c.into_node.ensures, ← c.place.ensures) (sym c.slot_of.ensures ∙ c.in-Some.is)

pub replace-requires-in-Some-clause-within : goal.replace-requires-in-Some-clause-within
replace-requires-in-Some-clause-within c = rw c.into_node.ensures (rw (← c.self.view_is) at c.requires.within)

pub invariant_of-self : goal.invariant_of-self
invariant_of-self c =
    let slots = c.self.inside.table.slots in
    let tags = c.self.inside.tags.items in
    let found : slot_of slots c.args.planned.place ≡ Some c.in-Some.index = rw (← c.place.ensures) (sym c.slot_of.ensures ∙ c.in-Some.is) in
    let first = length-set slots c.in-Some.index (Some c.args.planned) in
    let second = length-set c.self.inside.numbers.numbers c.in-Some.index c.args.number in
    rw (c.replace-in-Some.ensures.slots, c.replace.ensures.numbers, c.into_node.ensures) (record {
      same = omega (arith, first, second, c.self.invariant.same);
      also = first ∙ c.self.invariant.also;
      tagged = tags-set slots tags c.args.planned c.in-Some.index c.self.invariant.also found c.self.invariant.tagged;
    })

pub returns-in-Some-clause-nodes : goal.returns-in-Some-clause-nodes
returns-in-Some-clause-nodes c =
    let slots = c.self.inside.table.slots in
    let found : slot_of slots c.args.planned.place ≡ Some c.in-Some.index = rw (← c.place.ensures) (sym c.slot_of.ensures ∙ c.in-Some.is) in
    rw (c.replace-in-Some.ensures.slots, c.into_node.ensures, ← c.self.view_is) (somes-set slots c.args.planned c.in-Some.index found)

pub returns-in-Some-clause-origins : goal.returns-in-Some-clause-origins
returns-in-Some-clause-origins c =
    let slots = c.self.inside.table.slots in
    let numbers = c.self.inside.numbers.numbers in
    let node = c.args.planned in
    let index = c.in-Some.index in
    let found : slot_of slots node.place ≡ Some index = rw (← c.place.ensures) (sym c.slot_of.ensures ∙ c.in-Some.is) in
    rw (c.replace-in-Some.ensures.slots, c.replace.ensures.numbers, c.into_node.ensures, ← c.self.view_is)
    (ap (λ ns. origins_of ns (numbers_in (slice_set slots index (Some node)) (slice_set numbers index c.args.number))) (somes-set slots node index found)
    ∙ (ap (origins_of (with_node (somes slots) node)) (set-in slots numbers node c.args.number index c.self.invariant.same found)
    ∙ sym (origins-with (somes slots) (numbers_in slots numbers) node c.args.number (length-in slots numbers c.self.invariant.same))))

pub add-requires-in-None-clause-absent : goal.add-requires-in-None-clause-absent
add-requires-in-None-clause-absent c =
    let slots = c.self.inside.table.slots in
    let absent : node_at (somes slots) c.args.planned.place ≡ None = none-slot slots c.args.planned.place (rw (← c.place.ensures) (sym c.slot_of.ensures ∙ c.in-None.is)) in
    absent

pub add-requires-in-None-clause-few : goal.add-requires-in-None-clause-few
add-requires-in-None-clause-few c =
    let slots = c.self.inside.table.slots in
    let absent : node_at (somes slots) c.args.planned.place ≡ None = none-slot slots c.args.planned.place (rw (← c.place.ensures) (sym c.slot_of.ensures ∙ c.in-None.is)) in
    limit_of-few (somes slots) c.args.planned absent (rw (← c.self.view_is) at c.requires.within)

pub add-requires-in-None-clause-light : goal.add-requires-in-None-clause-light
add-requires-in-None-clause-light c =
    let slots = c.self.inside.table.slots in
    let absent : node_at (somes slots) c.args.planned.place ≡ None = none-slot slots c.args.planned.place (rw (← c.place.ensures) (sym c.slot_of.ensures ∙ c.in-None.is)) in
    limit_of-light (somes slots) c.args.planned absent (rw (← c.self.view_is) at c.requires.within)

pub invariant_of-self-in-None : goal.invariant_of-self-in-None
invariant_of-self-in-None c =
    let slots = c.self.inside.table.slots in
    let tags = c.self.inside.tags.items in
    let pushed = c.push_reserved.ensures.items in
    let tag : c.tag_of.result ≡ parent_tag c.args.planned = c.tag_of.ensures ∙ ap tag_of c.parent.ensures in
    let first = length-append slots (Some c.args.planned ∷ []) in
    let second = length-append c.self.inside.numbers.numbers (c.args.number ∷ []) in
    let third = length-append tags (c.tag_of.result ∷ []) in
    rw (c.add-in-None.ensures.slots, c.add.ensures.numbers, pushed) (record {
      same = omega (arith, first, second, c.self.invariant.same);
      also = omega (arith, first, third, c.self.invariant.also);
      tagged = tags-push slots tags c.args.planned c.tag_of.result c.self.invariant.also tag c.self.invariant.tagged;
    })

pub returns-in-None-clause-nodes : goal.returns-in-None-clause-nodes
returns-in-None-clause-nodes c =
    let slots = c.self.inside.table.slots in
    let absent : node_at (somes slots) c.args.planned.place ≡ None = none-slot slots c.args.planned.place (rw (← c.place.ensures) (sym c.slot_of.ensures ∙ c.in-None.is)) in
    rw (c.add-in-None.ensures.slots, ← c.self.view_is) (push-somes slots c.args.planned absent)

pub returns-in-None-clause-origins : goal.returns-in-None-clause-origins
returns-in-None-clause-origins c =
    let slots = c.self.inside.table.slots in
    let numbers = c.self.inside.numbers.numbers in
    let node = c.args.planned in
    let absent : node_at (somes slots) node.place ≡ None = none-slot slots node.place (rw (← c.place.ensures) (sym c.slot_of.ensures ∙ c.in-None.is)) in
    rw (c.add-in-None.ensures.slots, c.add.ensures.numbers, ← c.self.view_is)
    (ap (λ ns. origins_of ns (numbers_in (slots ++ Some node ∷ []) (numbers ++ c.args.number ∷ []))) (somes-push slots node)
    ∙ (ap (origins_of (somes slots ++ node ∷ [])) (push-in slots numbers node c.args.number c.self.invariant.same)
    ∙ origins-push (somes slots) (numbers_in slots numbers) node c.args.number (length-in slots numbers c.self.invariant.same) (index_of-absent (somes slots) node.place absent)))
