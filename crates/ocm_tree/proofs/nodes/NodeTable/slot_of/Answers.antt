use Rattle.std.proofs.Common.{◌∙◌}
use Rattle.ocm_tree.proofs.nodes.NodeTable.slot_of.Goals as goal

pub returns : goal.returns
returns c = rw (← c.self.view_is) (c.copied.ensures ∙ (c.get.ensures.value ∙ c.self.invariant.found c.args.place.now))
