use Rattle.std.proofs.Common.{◌≡◌, Bool, true, false, rules, arith}
use Rattle.std.specs.Prelude.{nat_le}
use Rattle.std.specs.List.Sorted.{IsPartitionPoint}
use Rattle.std.proofs.lemmas.Bool.Decides.{nat_tests}
use Rattle.std.proofs.lemmas.List.Sorted.{IsPartitionPoint-from_clause, IsPartitionedBy-leb}
use Rattle.ocm_tree.specs.declared.orders.NumberedNode.{NumberedNode}
use Rattle.ocm_tree.proofs.Parted.{taken}
use Rattle.ocm_tree.proofs.orders.end_of.Goals as goal

pub returns : goal.returns
returns c =
    let p : NumberedNode → Bool = λ node. nat_le node.number c.args.number in
    let at : IsPartitionPoint (λ y. p y ≡ true) (λ y. p y ≡ false) c.args.order.now c.partition_point.result =
    IsPartitionPoint-from_clause p c.args.order.now c.partition_point.result c.partition_point.ensures.partitioned (IsPartitionedBy-leb (λ (node : NumberedNode). node.number) c.args.order.now c.args.number c.requires) (λ a r f' h. search rules) in
    record {
      within = c.partition_point.ensures.bound;
      earlier = taken p c.args.order.now c.partition_point.result c.partition_point.ensures.bound (λ k d l. at.0 k d (omega arith) l) (λ k d l m. at.1 k d l m);
      before = λ k d l. let passes = at.0 k d (omega arith) l in grind (arith, nat_tests, passes);
      behind = λ k d l m. let fails = at.1 k d l m in grind (arith, nat_tests, fails);
    }
