use Rattle.std.proofs.Common.{◌≡◌, ◌∙◌, ◌<◌, List, get_or, length, true, ap, subst, rules}
use Rattle.std.proofs.lemmas.List.{get_or_default}
use Rattle.ocm_tree.proofs.NumberCounts.{node_of, own-in_order, moved-in_order, rises-without}
use Rattle.ocm_tree.specs.declared.orders.NumberedNode.{NumberedNode}
use Rattle.ocm_tree.specs.Orders.{is_node}
use Rattle.ocm_tree.proofs.entry_numbers.EntryNumbers.replace.Goals as goal

pub place_of-place-requires-clause-there : goal.place_of-place-requires-clause-there
place_of-place-requires-clause-there c =
    let within = rw (← c.self.view_is) at c.requires in
    let numbers = c.self.inside.numbers.items in
    let read : c.index-older.result.now ≡ get_or numbers c.args.index c.index-older.result.now = search rules in
    let older = read ∙ get_or_default numbers c.args.index c.index-older.result.now 0 within in
    rw c.deref.ensures.value (own-in_order numbers c.self.inside.order.items c.args.index c.index-older.result.now c.self.invariant within older)

pub put_in_place-requires-clause-sorted : goal.put_in_place-requires-clause-sorted
put_in_place-requires-clause-sorted c =
    let there : c.place_of-place.result < length c.self.inside.order.items = subst (λ (nodes : List NumberedNode). c.place_of-place.result < length nodes) c.deref.ensures.value c.place_of-place.ensures.within in
    rw c.remove-gone.ensures.items (rises-without c.self.inside.order.items c.place_of-place.result there c.self.invariant.sorted)

pub invariant_of-self : goal.invariant_of-self
invariant_of-self c =
    let within = rw (← c.self.view_is) at c.requires in
    let numbers = c.self.inside.numbers.items in
    let order = c.self.inside.order.items in
    let read : c.index-older.result.now ≡ get_or numbers c.args.index c.index-older.result.now = search rules in
    let older = read ∙ get_or_default numbers c.args.index c.index-older.result.now 0 within in
    let place = c.place_of-place.result in
    let gone = c.remove-gone.result in
    let there : place < length order = subst (λ (nodes : List NumberedNode). place < length nodes) c.deref.ensures.value c.place_of-place.ensures.within in
    let found : is_node c.index-older.result.now c.args.index (get_or order place (node_of c.index-older.result.now c.args.index)) ≡ true =
    subst (λ (nodes : List NumberedNode). is_node c.index-older.result.now c.args.index (get_or nodes place (node_of c.index-older.result.now c.args.index)) ≡ true) c.deref.ensures.value c.place_of-place.ensures.is in
    let same : is_node (get_or numbers c.args.index 0) c.args.index gone ≡ true =
    rw (← older) (ap (is_node c.index-older.result.now c.args.index) (c.remove-gone.ensures.value ∙ get_or_default order place gone (node_of c.index-older.result.now c.args.index) there) ∙ found) in
    let put = rw c.remove-gone.ensures.items at c.put_in_place.ensures.nodes in
    moved-in_order numbers order c.put_in_place.new.order.items c.args.index place c.args.number gone c.self.invariant within there c.remove-gone.ensures.value same put c.put_in_place.ensures.sorted
