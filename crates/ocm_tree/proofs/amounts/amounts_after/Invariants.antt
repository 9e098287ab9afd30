use Rattle.std.proofs.Common.{◌≡◌, take}
use Rattle.std.specs.Prelude.{sum_by}
use Rattle.std.specs.List.{list_any}
use Rattle.ocm_tree.specs.declared.amounts.Amount.TheVariants.{Bytes, Nodes, Siblings}
use Rattle.ocm_tree.specs.Carries.{amount_in, makes_long}
use Rattle.ocm_tree.proofs.amounts.amounts_after.Given as goal

abbrev pub invariant-loop-slot : goal.invariant-loop-slot
invariant-loop-slot l = record {
  bytes : l.bytes ≡ sum_by (amount_in Bytes l.from l.to l.moving) (take l.slot-index l.slots);
  nodes : l.nodes ≡ sum_by (amount_in Nodes l.from l.to l.moving) (take l.slot-index l.slots);
  siblings : l.siblings ≡ sum_by (amount_in Siblings l.from l.to l.moving) (take l.slot-index l.slots);
  long : l.long ≡ list_any (makes_long l.from l.to) (take l.slot-index l.slots);
}
