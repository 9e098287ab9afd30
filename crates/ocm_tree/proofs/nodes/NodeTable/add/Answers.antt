use Rattle.std.proofs.Common.{◌≡◌, ◌+◌, length, ◌∙◌, ap, arith, Some, cond, refl}
use Rattle.std.specs.Prelude.{is_some}
use Rattle.std.specs.HashMap as hash
use Rattle.ocm_entry.specs.declared.rows.Place.{Place}
use Rattle.ocm_rules.specs.Files.{same_place, parent_of, child_count, with_roots}
use Rattle.ocm_rules.specs.State.{node_at}
use Rattle.ocm_tree.specs.Tables.{counted, somes}
use Rattle.ocm_tree.proofs.NodeLists.{child_count-le-length}
use Rattle.ocm_tree.proofs.TableKept.{added-IsTable}
use Rattle.ocm_tree.proofs.nodes.NodeTable.add.Goals as goal

pub overflow_add-more : goal.overflow_add-more
overflow_add-more c =
    let slots = c.self.inside.slots.items in
    let above = c.parent-above.result.now in
    let count = c.counted-more.ensures ∙ (ap counted c.get.ensures.value ∙ c.self.invariant.counts above) in
    let bound = child_count-le-length (somes slots) above in
    omega (arith, count, bound, c.self.invariant.few)

pub invariant_of-self : goal.invariant_of-self
invariant_of-self c =
    let slots = c.self.inside.slots.items in
    let node = c.args.planned in
    let absent = rw (← c.self.view_is) at c.requires.absent in
    let few = rw (← c.self.view_is) at c.requires.few in
    let light = rw (← c.self.view_is) at c.requires.light in
    let count : c.counted-more.result ≡ child_count (somes slots) (parent_of node.place) = c.counted-more.ensures ∙ (ap counted c.get.ensures.value ∙ (c.self.invariant.counts c.parent-above.result.now ∙ ap (child_count (somes slots)) c.parent-above.ensures)) in
    let last : c.len-index.result ≡ length slots = omega arith in
    let places : (place : Place) → hash.get same_place c.into_slot-node.new.places place ≡ cond (same_place node.place place) (Some (length slots)) (hash.get same_place c.self.inside.places place) = λ place. c.into_slot-node.ensures.places place ∙ rw last refl in
    let children : (place : Place) → hash.get same_place c.into_slot-node.new.children place ≡ cond (same_place (parent_of node.place) place) (Some (child_count (somes slots) (parent_of node.place) + 1)) (hash.get same_place c.self.inside.children place) = λ place. c.into_slot-node.ensures.children place ∙ rw count refl in
    let where_lies : c.has_root_or_node-lies.result ≡ is_some (with_roots (node_at (somes slots)) (parent_of node.place)) = rw (← c.self.view_is, c.parent-above.ensures) at c.has_root_or_node-lies.ensures in
    rw (c.push_reserved.ensures.items, c.into_slot-node.ensures.node, c.size_of.ensures, c.standing.ensures, c.are_both-self-inside.ensures)
    (added-IsTable c.self.inside.root slots node c.self.inside.places c.self.inside.children c.into_slot-node.new.places c.into_slot-node.new.children c.self.inside.count c.self.inside.total c.self.inside.rooted c.has_root_or_node-lies.result c.self.invariant absent few light where_lies places children)

pub returns-clause-slots : goal.returns-clause-slots
returns-clause-slots c = rw (c.push_reserved.ensures.items, c.into_slot-node.ensures.node, ← c.self.view_is) refl
