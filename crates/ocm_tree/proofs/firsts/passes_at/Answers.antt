use Rattle.std.proofs.Common.{refl}
use Rattle.ocm_tree.proofs.Got.{got, missed}
use Rattle.ocm_tree.proofs.firsts.passes_at.Goals as goal

pub returns-in-Some : goal.returns-in-Some
returns-in-Some c =
    let found = c.in-Some.ensures.lookup in
    rw (got c.args.slots.now c.args.index c.in-Some.slot.now found.3.0 found.1) c.passes_in.ensures

pub returns-in-None : goal.returns-in-None
returns-in-None c = rw (missed c.args.slots.now c.args.index c.in-None.ensures.lookup.3) refl
