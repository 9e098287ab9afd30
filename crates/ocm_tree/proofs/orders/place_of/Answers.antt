use Rattle.std.proofs.Common.{◌≡◌, ◌∙◌, drop, Some, sym, ap}
use Rattle.std.proofs.lemmas.List.{get_or-drop}
use Rattle.std.specs.Prelude.{position}
use Rattle.std.specs.List.{list_any}
use Rattle.ocm_tree.specs.Orders.{is_node}
use Rattle.ocm_tree.proofs.Parted.{position-some, position-passes, rest-drop}
use Rattle.ocm_tree.proofs.NumberCounts.{later-there, node_of}
use Rattle.ocm_tree.proofs.orders.place_of.Goals as goal

pub unwrap-later-requires : goal.unwrap-later-requires
unwrap-later-requires c =
    let order = c.args.order.now in
    let there = later-there c.args.number c.args.index order c.requires.there in
    rw c.position_of.ensures (position-some (is_node c.args.number c.args.index) _ (ap (list_any (is_node c.args.number c.args.index)) (rest-drop order c.start_of-start.result ∙ c.start_of-start.ensures.later) ∙ there))

pub returns-clause-is : goal.returns-clause-is
returns-clause-is c =
    let order = c.args.order.now in
    let start = c.start_of-start.result in
    let test = is_node c.args.number c.args.index in
    let found : position test (drop start order) ≡ Some c.unwrap-later.result = sym (c.position_of.ensures ∙ ap (position test) (rest-drop order start)) ∙ c.unwrap-later.ensures in
    let passes = position-passes test (drop start order) c.unwrap-later.result (node_of c.args.number c.args.index) found in
    ap test (sym (get_or-drop start order c.unwrap-later.result (node_of c.args.number c.args.index))) ∙ passes.1
