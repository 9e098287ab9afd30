use Rattle.std.proofs.Common.{sym, ap, ◌∙◌, get_or, subst, ◌≡◌}
use Rattle.std.specs.Prelude.{Some}
use Rattle.ocm_entry.specs.declared.rows.Node.{Node}
use Rattle.ocm_rules.specs.State.{node_at}
use Rattle.ocm_tree.specs.Tables.{somes}
use Rattle.ocm_tree.proofs.Compared.{slot-stands}
use Rattle.ocm_tree.proofs.comparing.node_in.Goals as goal

pub returns-in-Some : goal.returns-in-Some
returns-in-Some c =
    let there = slot-stands c.args.slots.now c.args.index c.index-slots-index.result c.in-Some.kept c.requires c.if-index-slots.false (sym c.index-slots-index.is ∙ c.in-Some.is) in
    subst (λ (n : Node). node_at (somes c.args.slots.now) n.place ≡ Some n.standing) (sym c.node.ensures) there
