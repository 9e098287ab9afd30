use Rattle.std.proofs.Common.{◌≡◌, ◌∙◌, length, Some, None, sym, ap}
use Rattle.std.specs.Prelude.{is_some}
use Rattle.ocm_rules.specs.Files.{total_size, child_count}
use Rattle.ocm_tree.specs.Tables.{somes, slot_of, IsLeaf}
use Rattle.ocm_tree.proofs.Slots.{in-slot, none-slot, set-cleared, somes-cleared, leaf-cleared}
use Rattle.ocm_tree.proofs.TableKept.{removed-IsTable, loose-IsTable}
use Rattle.ocm_tree.proofs.nodes.NodeTable.remove_leaf.Goals as goal

pub remove_slot-requires : goal.remove_slot-requires
remove_slot-requires c =
    let slots = c.self.inside.slots.items in
    let found : slot_of slots c.args.place.now ≡ Some c.in-Some.index = sym (rw (← c.self.view_is) at c.slot_of.ensures) ∙ c.in-Some.is in
    let here = (in-slot slots c.args.place.now c.in-Some.index found).1 in
    record {
      within = here.within;
      full = ap is_some (here.slot None);
      table = loose-IsTable c.self.inside.root slots c.self.inside.places c.self.inside.children c.self.inside.count c.self.inside.total c.self.inside.rooted c.self.invariant;
    }

pub invariant_of-self : goal.invariant_of-self
invariant_of-self c =
    let there = c.args.place.now in
    let slots = c.self.inside.slots.items in
    let found : slot_of slots there ≡ Some c.in-Some.index = sym (rw (← c.self.view_is) at c.slot_of.ensures) ∙ c.in-Some.is in
    let leaf : IsLeaf (somes slots) there = rw (← c.self.view_is) at c.requires.leaf in
    let set = ap somes (c.remove_slot.ensures.slots ∙ set-cleared slots there c.in-Some.index leaf c.self.invariant.once found) ∙ somes-cleared there slots in
    let table = c.remove_slot.ensures.table in
    removed-IsTable c.self.inside.root slots c.remove_slot.new.slots.items there c.self.inside.places c.self.inside.children c.remove_slot.new.places c.remove_slot.new.children c.self.inside.count c.self.inside.total c.remove_slot.new.count c.remove_slot.new.total c.self.inside.rooted c.self.invariant
    set table.found (λ q. table.counts q ∙ ap (λ ns. child_count ns q) set) (table.counted_up ∙ ap length set) (table.adds_up ∙ ap total_size set)

pub returns-in-Some-clause-slots : goal.returns-in-Some-clause-slots
returns-in-Some-clause-slots c =
    let slots = c.self.inside.slots.items in
    let found : slot_of slots c.args.place.now ≡ Some c.in-Some.index = sym (rw (← c.self.view_is) at c.slot_of.ensures) ∙ c.in-Some.is in
    let leaf : IsLeaf (somes slots) c.args.place.now = rw (← c.self.view_is) at c.requires.leaf in
    rw (c.remove_slot.ensures.slots, ← c.self.view_is) (set-cleared slots c.args.place.now c.in-Some.index leaf c.self.invariant.once found)

pub returns-in_default-clause-slots : goal.returns-in_default-clause-slots
returns-in_default-clause-slots c =
    let slots = c.self.inside.slots.items in
    let nothing = none-slot slots c.args.place.now (sym (rw (← c.self.view_is) at c.slot_of.ensures) ∙ c.in_default.is) in
    let leaf : IsLeaf (somes slots) c.args.place.now = rw (← c.self.view_is) at c.requires.leaf in
    rw (← c.self.view_is) (sym (leaf-cleared slots c.args.place.now leaf nothing))
