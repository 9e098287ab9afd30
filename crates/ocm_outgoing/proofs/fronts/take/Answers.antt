use Rattle.std.proofs.Common.{arith}
use Rattle.ocm_outgoing.proofs.Counts.{place-there, rises-without, times-remove}
use Rattle.ocm_outgoing.proofs.fronts.take.Goals as goal

pub remove-number-requires : goal.remove-number-requires
remove-number-requires c =
    let at = rw c.deref.ensures.value at c.place_of-place.ensures in
    let found = place-there c.args.fronts.now.items c.args.number c.place_of-place.result c.args.number c.requires.rising c.requires.there at.below at.behind in
    let len = rw c.deref.ensures.value at c.deref.ensures.len in
    omega (arith, found.0, len)

pub returns-clause-times : goal.returns-clause-times
returns-clause-times c =
    let at = rw c.deref.ensures.value at c.place_of-place.ensures in
    let found = place-there c.args.fronts.now.items c.args.number c.place_of-place.result c.args.number c.requires.rising c.requires.there at.below at.behind in
    rw c.remove-number.ensures.items (λ k. times-remove k c.args.fronts.now.items c.place_of-place.result c.args.number found.0 found.1)

pub returns-clause-rising : goal.returns-clause-rising
returns-clause-rising c =
    let at = rw c.deref.ensures.value at c.place_of-place.ensures in
    let found = place-there c.args.fronts.now.items c.args.number c.place_of-place.result c.args.number c.requires.rising c.requires.there at.below at.behind in
    rw c.remove-number.ensures.items (rises-without c.args.fronts.now.items c.place_of-place.result found.0 c.requires.rising)
