use Rattle.std.proofs.Common.{arith}
use Rattle.ocm_incoming.proofs.Counting.{count-fits, tally-pushed}
use Rattle.ocm_incoming.proofs.tallies.Tally.push.Goals as goal

pub overflow_add-count : goal.overflow_add-count
overflow_add-count c =
    let more = c.push_reserved.ensures.items in
    let high = rw (← c.self.view_is) at c.requires.within in
    let most = count-fits c.self.inside.counts.items c.self.inside.tags.items _ c.args.group c.index.result.now c.one_if.result c.args.counts c.self.invariant c.requires.from_one high more c.index.ensures c.one_if.ensures in
    omega (arith, most)

pub invariant_of-self : goal.invariant_of-self
invariant_of-self c =
    let more = c.push_reserved.ensures.items in
    let tagged = c.push_reserved-2.ensures.items in
    let high = rw (← c.self.view_is) at c.requires.within in
    let few = rw (← c.self.view_is) at c.requires.few in
    tally-pushed c.self.inside.tags.items _ c.self.inside.counts.items _ c.args.group c.index.result.now c.one_if.result c.args.counts c.self.invariant few c.requires.from_one high more c.index.ensures c.one_if.ensures tagged
