use Rattle.std.proofs.Common.{◌≤◌, length, sum_by, refl, arith}
use Rattle.std.specs.Prelude.{Bool}
use Rattle.ocm_limits.specs.Limits.{most_nodes, most_stored_bytes}
use Rattle.ocm_entry.specs.declared.rows.Place.{Place}
use Rattle.ocm_rules.specs.Files.{total_size}
use Rattle.ocm_tree.specs.declared.amounts.Amount.{Amount}
use Rattle.ocm_tree.specs.Tables.{Slots, somes}
use Rattle.ocm_tree.specs.Carries.{amount_of, amount_in}
use Rattle.ocm_tree.proofs.SlotLists.{sum_by-somes}
use Rattle.ocm_tree.proofs.Carried.{amount-bound}
use Rattle.ocm_tree.proofs.nodes.NodeTable.amounts_after.Goals as goal

bounded : (what : Amount) (from to : Place) (moving : Bool) (slots : Slots) → length (somes slots) ≤ most_nodes → total_size (somes slots) ≤ most_stored_bytes → sum_by (amount_in what from to moving) slots ≤ 4294967296
bounded what from to moving slots few light =
    let bound = amount-bound what from to moving (somes slots) in
    let same = sum_by-somes (amount_of what from to moving) (amount_in what from to moving) refl (λ n. refl) slots in
    omega (arith, bound, same, few, light)

pub amounts_by_one-requires-clause-lone : goal.amounts_by_one-requires-clause-lone
amounts_by_one-requires-clause-lone c = rw (c.deref.ensures.value) (rw (c.in-Some.is, c.place.ensures, c.place-2.ensures, ← c.self.view_is) at c.lone_carry.ensures)

pub amounts_by_one-requires-clause-few : goal.amounts_by_one-requires-clause-few
amounts_by_one-requires-clause-few c = λ what. rw (c.deref.ensures.value) (bounded what c.args.from.now c.args.to.now c.args.moving c.self.inside.slots.items c.self.invariant.few c.self.invariant.light)

pub amounts_after-requires : goal.amounts_after-requires
amounts_after-requires c = λ what. rw (c.deref-in-None.ensures.value) (bounded what c.args.from.now c.args.to.now c.args.moving c.self.inside.slots.items c.self.invariant.few c.self.invariant.light)
