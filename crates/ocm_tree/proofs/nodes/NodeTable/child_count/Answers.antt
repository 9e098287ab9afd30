use Rattle.std.proofs.Common.{◌∙◌, ap, arith}
use Rattle.ocm_tree.specs.Tables.{counted, somes}
use Rattle.ocm_tree.proofs.NodeLists.{child_count-le-length}
use Rattle.ocm_tree.proofs.nodes.NodeTable.child_count.Goals as goal

pub returns-clause-count : goal.returns-clause-count
returns-clause-count c = rw (← c.self.view_is) (c.counted.ensures ∙ ap counted c.get.ensures.value ∙ c.self.invariant.counts c.args.place.now)

pub returns-clause-within : goal.returns-clause-within
returns-clause-within c =
    let count = c.counted.ensures ∙ ap counted c.get.ensures.value ∙ c.self.invariant.counts c.args.place.now in
    let bound = child_count-le-length (somes c.self.inside.slots.items) c.args.place.now in
    omega (arith, count, bound, c.self.invariant.few)
