use Rattle.std.proofs.Common.{◌≡◌, ◌∙◌, ap, sum_by, refl, sym}
use Rattle.ocm_entry.specs.declared.rows.Place.{Place}
use Rattle.ocm_rules.specs.Files.{child_count}
use Rattle.ocm_tree.specs.declared.amounts.Amount.{Amount}
use Rattle.ocm_tree.specs.declared.amounts.Amount.TheVariants.{Bytes, Nodes, Siblings}
use Rattle.ocm_tree.specs.Tables.{Slots, somes}
use Rattle.ocm_tree.specs.Carries.{weight, weight_in}
use Rattle.ocm_tree.proofs.SlotLists.{sum_by-somes}
use Rattle.ocm_tree.proofs.Carried.{length-weights}
use Rattle.ocm_tree.proofs.nodes.NodeTable.amounts_beside.Goals as goal

weights : (what : Amount) (to : Place) (slots : Slots) → sum_by (weight what to) (somes slots) ≡ sum_by (weight_in what to) slots
weights what to slots = sym (sum_by-somes (weight what to) (weight_in what to) refl (λ n. refl) slots)

pub returns : goal.returns
returns c = λ to is.
    let slots = c.args.self.now.slots in
    record {
      bytes = c.total_size.ensures.total ∙ weights Bytes to slots;
      nodes = c.len.ensures.len ∙ (sym (length-weights to (somes slots)) ∙ weights Nodes to slots);
      siblings = c.from.ensures ∙ (c.child_count.ensures.count ∙ (ap (child_count (somes slots)) is ∙ weights Siblings to slots));
    }
