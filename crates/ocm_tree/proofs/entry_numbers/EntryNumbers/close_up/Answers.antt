use Rattle.std.proofs.Common.{length, ap, arith}
use Rattle.std.specs.Prelude.{is_some}
use Rattle.ocm_tree.proofs.Parted.{where-fewer}
use Rattle.ocm_tree.proofs.entry_numbers.EntryNumbers.close_up.Goals as goal

pub put_in_order-requires : goal.put_in_order-requires
put_in_order-requires c =
    let fewer = where-fewer is_some c.args.slots.now c.self.inside.numbers.items in
    rw (c.deref.ensures.value, c.drop_numbers.ensures.numbers) (omega (arith, fewer, c.self.invariant.all))

pub returns-clause-room : goal.returns-clause-room
returns-clause-room c =
    let fewer = where-fewer is_some c.args.slots.now c.self.inside.numbers.items in
    let kept = ap length c.drop_numbers.ensures.numbers in
    let listed = ap length c.deref.ensures.value in
    rw (← c.self.view_is) (omega (arith, fewer, kept, listed, c.put_in_order.ensures.order.all, c.self.invariant.all, c.drop_numbers.ensures.capacity, c.put_in_order.ensures.capacity))
