use Rattle.std.proofs.Common.{◌∙◌, map, sym, ap}
use Rattle.std.specs.List.{list_any}
use Rattle.ocm_rules.specs.Files.{is_too_long}
use Rattle.ocm_rules.specs.State.{node_at}
use Rattle.ocm_tree.specs.Tables.{somes}
use Rattle.ocm_tree.specs.Carries.{carried}
use Rattle.ocm_tree.proofs.Carried.{any-too_long, limit_of_carry-paths}
use Rattle.ocm_tree.proofs.trees.Tree.plan_carry.Goals as goal

pub new-requires : goal.new-requires
new-requires c =
    let from = c.args.from.now in
    let to = c.args.to.now in
    let nodes = somes c.self.inside.table.slots in
    let same = ap (λ ns. list_any is_too_long (map (carried from to) ns)) c.slots_below-slots.ensures in
    let short = limit_of_carry-paths nodes from to c.args.moving (node_at nodes from) (rw (← c.self.view_is) at c.requires.within) in
    record { within = sym (any-too_long from to (somes c.slots_below-slots.result.now)) ∙ (same ∙ (any-too_long from to nodes ∙ short)) }
