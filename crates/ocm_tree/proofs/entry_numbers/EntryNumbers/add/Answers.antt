use Rattle.std.proofs.Common.{◌≡◌, length, arith}
use Rattle.ocm_tree.proofs.NumberCounts.{added-in_order}
use Rattle.ocm_tree.proofs.entry_numbers.EntryNumbers.add.Goals as goal

pub invariant_of-self : goal.invariant_of-self
invariant_of-self c =
    let numbers = c.push_reserved.ensures.items in
    let last : c.len-index.result ≡ length c.self.inside.numbers.items = omega arith in
    rw numbers (added-in_order c.self.inside.numbers.items c.self.inside.order.items c.put_in_place.new.order.items c.args.number c.len-index.result c.self.invariant last c.put_in_place.ensures.nodes c.put_in_place.ensures.sorted)
