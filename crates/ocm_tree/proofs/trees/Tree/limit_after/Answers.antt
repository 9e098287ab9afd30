use Rattle.std.proofs.Common.{◌≡◌, ◌∙◌, length, sym, ap, refl, sum_by}
use Rattle.std.specs.Prelude.{Bool, Some, None, if◌then◌else◌}
use Rattle.std.specs.List.{list_any}
use Rattle.ocm_types.specs.declared.phases.Which.TheVariants.{PathLength}
use Rattle.ocm_entry.specs.declared.rows.Place.{Place}
use Rattle.ocm_rules.specs.Files.{total_size, child_count, parent_of, copies, path_limit}
use Rattle.ocm_tree.specs.declared.amounts.Amount.{Amount}
use Rattle.ocm_tree.specs.declared.amounts.Amount.TheVariants.{Bytes, Nodes, Siblings}
use Rattle.ocm_tree.specs.Tables.{Slots, somes}
use Rattle.ocm_tree.specs.Carries.{amount_of, amount_in, after, limit_after, makes_long, makes_long_path}
use Rattle.ocm_tree.proofs.SlotLists.{any-somes, sum_by-somes}
use Rattle.ocm_tree.proofs.Carried.{amount-after, length-weights, path_limit-copies}
use Rattle.ocm_tree.proofs.trees.Tree.limit_after.Goals as goal

amounts : (what : Amount) (from to : Place) (moving : Bool) (slots : Slots) → sum_by (amount_in what from to moving) slots ≡ sum_by (amount_of what from to moving) (somes slots)
amounts what from to moving slots = sum_by-somes (amount_of what from to moving) (amount_in what from to moving) refl (λ n. refl) slots

pub returns : goal.returns
returns c =
    let from = c.args.from.now in
    let to = c.args.to.now in
    let moving = c.args.moving in
    let slots = c.self.inside.table.slots in
    let nodes = somes slots in
    let all = rw (c.new-source.ensures, c.new-target.ensures) at c.amounts_after-after.ensures.amounts in
    let total : c.amounts_after-after.result.bytes ≡ total_size (after from to moving nodes) = all.bytes ∙ (amounts Bytes from to moving slots ∙ sym (amount-after Bytes from to moving nodes)) in
    let count : c.amounts_after-after.result.nodes ≡ length (after from to moving nodes) = all.nodes ∙ (amounts Nodes from to moving slots ∙ (sym (amount-after Nodes from to moving nodes) ∙ length-weights to (after from to moving nodes))) in
    let siblings : c.amounts_after-after.result.siblings ≡ child_count (after from to moving nodes) (parent_of to) = all.siblings ∙ (amounts Siblings from to moving slots ∙ sym (amount-after Siblings from to moving nodes)) in
    let numbers : c.first_passed-numbers.result ≡ limit_after nodes from to moving = c.first_passed-numbers.ensures ∙ rw (total, count, siblings) refl in
    let long : c.amounts_after-after.result.long ≡ list_any (makes_long_path from to) nodes =
    (rw (c.new-source.ensures, c.new-target.ensures) at c.amounts_after-after.ensures.long) ∙ any-somes (makes_long_path from to) (makes_long from to) refl (λ n. refl) slots in
    let paths : c.limit_of_paths.result ≡ path_limit (copies from to nodes) = c.limit_of_paths.ensures ∙ (ap (λ b. if b then Some PathLength else None) long ∙ sym (path_limit-copies from to nodes)) in
    rw (← c.self.view_is) (c.or.ensures ∙ rw (numbers, paths) refl)
