use Rattle.std.proofs.Common.{◌∙◌, length, ap}
use Rattle.ocm_rules.specs.Files.{total_size, child_count}
use Rattle.ocm_tree.specs.Tables.{somes}
use Rattle.ocm_tree.proofs.Slots.{somes-cleared}
use Rattle.ocm_tree.proofs.TableKept.{removed-IsTable, loose-IsTable}
use Rattle.ocm_tree.proofs.nodes.NodeTable.remove_all.Goals as goal

pub remove_below-requires : goal.remove_below-requires
remove_below-requires c = record { table = loose-IsTable c.self.inside.root c.self.inside.slots.items c.self.inside.places c.self.inside.children c.self.inside.count c.self.inside.total c.self.inside.rooted c.self.invariant }

pub invariant_of-self : goal.invariant_of-self
invariant_of-self c =
    let there = c.args.place.now in
    let slots = c.self.inside.slots.items in
    let after = c.remove_below.new.slots.items in
    let set = ap somes (rw c.new.ensures at c.remove_below.ensures.slots) ∙ somes-cleared there slots in
    let table = c.remove_below.ensures.table in
    removed-IsTable c.self.inside.root slots after there c.self.inside.places c.self.inside.children c.remove_below.new.places c.remove_below.new.children c.self.inside.count c.self.inside.total c.remove_below.new.count c.remove_below.new.total c.self.inside.rooted c.self.invariant
    set table.found (λ q. table.counts q ∙ ap (λ ns. child_count ns q) set) (table.counted_up ∙ ap length set) (table.adds_up ∙ ap total_size set)

pub returns-clause-slots : goal.returns-clause-slots
returns-clause-slots c = rw (← c.self.view_is) (rw c.new.ensures at c.remove_below.ensures.slots)
