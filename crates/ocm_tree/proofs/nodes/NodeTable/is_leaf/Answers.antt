use Rattle.std.proofs.Common.{◌≡◌, ◌∙◌, sym, ap, arith}
use Rattle.std.proofs.lemmas.Bool.Decides.{nat_tests}
use Rattle.ocm_tree.specs.Tables.{counted, somes}
use Rattle.ocm_tree.proofs.Leaves.{leaf-from}
use Rattle.ocm_tree.proofs.nodes.NodeTable.is_leaf.Goals as goal

pub returns-then-self : goal.returns-then-self
returns-then-self c = λ e.
    let count = c.counted.ensures ∙ ap counted c.get.ensures.value ∙ c.self.invariant.counts c.args.place.now in
    let zero : c.counted.result ≡ 0 = grind (arith, nat_tests, e) in
    rw (← c.self.view_is) (leaf-from (somes c.self.inside.slots.items) c.args.place.now (c.self.invariant.lies c.if-self.true) (sym count ∙ zero))
