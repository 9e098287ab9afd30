use Rattle.std.proofs.Common.{◌<◌, ◌-◌, length, arith}
use Rattle.ocm_incoming.proofs.Counting.{read-least, read-most, read-set, read-changed}
use Rattle.ocm_incoming.proofs.tallies.Tally.set.Goals as goal

pub overflow_sub-count : goal.overflow_sub-count
overflow_sub-count c =
    let high = rw (← c.self.view_is) at c.requires.within in
    let within : c.args.number - 1 < length c.self.inside.tags.items = omega (arith, high, c.requires.from_one) in
    read-least c.self.inside.tags.items c.self.inside.counts.items (c.args.number - 1) c.index.result.now c.one_if.result c.index-older.result.now
    (record { tally = c.self.invariant; within = within; tag = c.index-older.ensures; counted = c.index.ensures; weighed = c.one_if.ensures })

pub overflow_add-count : goal.overflow_add-count
overflow_add-count c =
    let high = rw (← c.self.view_is) at c.requires.within in
    let within : c.args.number - 1 < length c.self.inside.tags.items = omega (arith, high, c.requires.from_one) in
    let most = read-most c.self.inside.tags.items c.self.inside.counts.items (c.args.number - 1) c.index.result.now c.one_if.result c.index-older.result.now c.one_if-2.result c.args.counts
    (record { tally = c.self.invariant; within = within; tag = c.index-older.ensures; counted = c.index.ensures; weighed = c.one_if.ensures }) c.one_if-2.ensures in
    omega (arith, most)

pub invariant_of-self : goal.invariant_of-self
invariant_of-self c =
    let high = rw (← c.self.view_is) at c.requires.within in
    let within : c.args.number - 1 < length c.self.inside.tags.items = omega (arith, high, c.requires.from_one) in
    read-set c.self.inside.tags.items c.self.inside.counts.items (c.args.number - 1) c.index.result.now c.one_if.result c.index-older.result.now c.one_if-2.result c.args.counts
    (record { tally = c.self.invariant; within = within; tag = c.index-older.ensures; counted = c.index.ensures; weighed = c.one_if.ensures }) c.one_if-2.ensures

pub returns-clause-tags : goal.returns-clause-tags
returns-clause-tags c =
    let high = rw (← c.self.view_is) at c.requires.within in
    rw (← c.self.view_is) (read-changed c.self.inside.tags.items c.args.number c.index-older.result.now c.args.counts c.requires.from_one high c.index-older.ensures)
