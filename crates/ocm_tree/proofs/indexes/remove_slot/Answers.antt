use Rattle.std.proofs.Common.{◌≡◌, ◌-◌, ◌∙◌, cond, None, sym, ap}
use Rattle.std.specs.Prelude.{if◌then◌else◌}
use Rattle.std.specs.HashMap as hash
use Rattle.ocm_entry.specs.declared.rows.Place.{Place}
use Rattle.ocm_entry.specs.declared.rows.Standing.TheVariants.{Collection}
use Rattle.ocm_rules.specs.Files.{same_place, parent_of}
use Rattle.ocm_tree.specs.Tables.{counted}
use Rattle.ocm_tree.proofs.SlotGone.{gone-IsTable, gone-one, gone-bytes}
use Rattle.ocm_tree.proofs.indexes.remove_slot.Goals as goal

pub overflow_sub-count : goal.overflow_sub-count
overflow_sub-count c = gone-one Collection c.args.slots.now.items c.args.index c.take_out-kept.result c.args.places.now c.args.children.now c.args.count.now c.args.total.now _ c.requires.table (sym c.take_out-kept.ensures.node)

pub overflow_sub-total : goal.overflow_sub-total
overflow_sub-total c = rw (c.size_of.ensures, c.standing.ensures) (gone-bytes Collection c.args.slots.now.items c.args.index c.take_out-kept.result c.args.places.now c.args.children.now c.args.count.now c.args.total.now _ c.requires.table (sym c.take_out-kept.ensures.node))

pub returns-clause-table : goal.returns-clause-table
returns-clause-table c =
    let n = c.take_out-kept.result in
    let counts : (q : Place) → counted (hash.get same_place c.lessen.new.children q) ≡ counted (hash.get same_place c.args.children.now q) - (if same_place (parent_of n.place) q then 1 else 0) =
    λ q. c.lessen.ensures.counts q ∙ ap (λ (p : Place). counted (hash.get same_place c.args.children.now q) - (if same_place p q then 1 else 0)) c.parent.ensures in
    let places : (q : Place) → hash.get same_place c.remove.new.self q ≡ cond (same_place n.place q) None (hash.get same_place c.args.places.now q) =
    λ q. c.remove.ensures.updates.0 q ∙ ap (λ (p : Place). cond (same_place p q) None (hash.get same_place c.args.places.now q)) c.place.ensures in
    rw (c.take_out-kept.ensures.slots, c.size_of.ensures, c.standing.ensures)
    (gone-IsTable Collection c.args.slots.now.items c.args.index n c.args.places.now c.args.children.now c.remove.new.self c.lessen.new.children c.args.count.now c.args.total.now c.requires.table (sym c.take_out-kept.ensures.node) places counts)
