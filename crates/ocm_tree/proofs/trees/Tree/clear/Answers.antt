use Rattle.std.proofs.Common.{◌∙◌, ap, not}
use Rattle.std.specs.Prelude.{filter}
use Rattle.ocm_entry.specs.declared.rows.Node.{Node}
use Rattle.ocm_rules.specs.Files.{is_at_or_above}
use Rattle.ocm_law_origins.specs.Origins.{Origin}
use Rattle.ocm_tree.specs.Trees.{TreeLists}
use Rattle.ocm_tree.proofs.OriginLists.{origins-moving, origins-copying}
use Rattle.ocm_tree.proofs.Carried.{stays-moving, stays-copying}
use Rattle.ocm_tree.proofs.trees.Tree.clear.Goals.{then-moving, else-moving}
use Rattle.ocm_tree.proofs.trees.Tree.clear.Goals as goal

pub returns-clause-nodes : goal.returns-clause-nodes
returns-clause-nodes c =
    let from = c.args.from.now in
    let to = c.args.to.now in
    elim c.if-moving.branch [
      | then-moving w ↦
          c.remove-2.ensures.nodes
          ∙ ap (λ (t : TreeLists). filter (λ (n : Node). not (is_at_or_above to n.place)) t.nodes) w.self-is
          ∙ ap (filter (λ (n : Node). not (is_at_or_above to n.place))) w.remove.ensures.nodes
          ∙ rw w.if-moving.true (stays-moving from to c.args.self.now.nodes)
      | else-moving w ↦
          c.remove-2.ensures.nodes
          ∙ ap (λ (t : TreeLists). filter (λ (n : Node). not (is_at_or_above to n.place)) t.nodes) w.self-is
          ∙ rw w.if-moving.false (stays-copying from to c.args.self.now.nodes)
    ]

pub returns-clause-origins : goal.returns-clause-origins
returns-clause-origins c =
    let from = c.args.from.now in
    let to = c.args.to.now in
    elim c.if-moving.branch [
      | then-moving w ↦
          c.remove-2.ensures.origins
          ∙ ap (λ (t : TreeLists). filter (λ (o : Origin). not (is_at_or_above to o.place)) t.origins) w.self-is
          ∙ ap (filter (λ (o : Origin). not (is_at_or_above to o.place))) w.remove.ensures.origins
          ∙ rw w.if-moving.true (origins-moving from to c.args.self.now.origins)
      | else-moving w ↦
          c.remove-2.ensures.origins
          ∙ ap (λ (t : TreeLists). filter (λ (o : Origin). not (is_at_or_above to o.place)) t.origins) w.self-is
          ∙ rw w.if-moving.false (origins-copying from to c.args.self.now.origins)
    ]
