use Rattle.std.proofs.Common.{◌∙◌, map, ap}
use Rattle.std.proofs.lemmas.List.{length-map}
use Rattle.ocm_tree.specs.Tables.{somes, cleared}
use Rattle.ocm_tree.specs.Standings.{origins_of, numbers_in}
use Rattle.ocm_tree.proofs.Removed.{outside}
use Rattle.ocm_tree.proofs.Slots.{somes-cleared}
use Rattle.ocm_tree.proofs.SlotNumbers.{cleared-in, length-in}
use Rattle.ocm_tree.proofs.OriginLists.{origins-outside}
use Rattle.ocm_tree.proofs.SlotTags.{tags-cleared}
use Rattle.ocm_tree.proofs.trees.Tree.remove.Goals as goal

pub invariant_of-self : goal.invariant_of-self
invariant_of-self c =
    let slots = c.self.inside.table.slots in
    let there = c.args.place.now in
    rw c.remove.ensures.slots (record {
      same = length-map slots (cleared there) ∙ c.self.invariant.same;
      also = length-map slots (cleared there) ∙ c.self.invariant.also;
      tagged = tags-cleared there slots c.self.inside.tags.items c.self.invariant.also c.self.invariant.tagged;
    })

pub returns-clause-nodes : goal.returns-clause-nodes
returns-clause-nodes c = rw (c.remove.ensures.slots, ← c.self.view_is) (somes-cleared c.args.place.now c.self.inside.table.slots)

pub returns-clause-origins : goal.returns-clause-origins
returns-clause-origins c =
    let there = c.args.place.now in
    let slots = c.self.inside.table.slots in
    let numbers = c.self.inside.numbers.numbers in
    rw (c.remove.ensures.slots, ← c.self.view_is)
    (ap (λ ns. origins_of ns (numbers_in (map (cleared there) slots) numbers)) (somes-cleared there slots)
    ∙ (ap (origins_of (outside there (somes slots))) (cleared-in there slots numbers c.self.invariant.same)
    ∙ origins-outside there (somes slots) (numbers_in slots numbers) (length-in slots numbers c.self.invariant.same)))
