use Rattle.std.proofs.Common.{◌≡◌, Bool, ℕ, true, false, rules, arith}
use Rattle.std.specs.Prelude.{nat_lt}
use Rattle.std.specs.List.Sorted.{IsPartitionPoint}
use Rattle.std.proofs.lemmas.Bool.Decides.{nat_tests}
use Rattle.std.proofs.lemmas.List.Sorted.{IsPartitionPoint-from_clause, IsPartitionedBy-ltb}
use Rattle.ocm_outgoing.proofs.fronts.place_of.Goals as goal

pub returns : goal.returns
returns c =
    let p : ℕ → Bool = λ front. nat_lt front c.args.number in
    let at : IsPartitionPoint (λ y. p y ≡ true) (λ y. p y ≡ false) c.args.fronts.now c.partition_point.result =
    IsPartitionPoint-from_clause p c.args.fronts.now c.partition_point.result c.partition_point.ensures.partitioned (IsPartitionedBy-ltb (λ x. x) c.args.fronts.now c.args.number c.requires) (λ a r f' h. search rules) in
    record {
      within = c.partition_point.ensures.bound;
      below = λ k d l. let passes = at.0 k d (omega arith) l in grind (arith, nat_tests, passes);
      behind = λ k d l m. let fails = at.1 k d l m in grind (arith, nat_tests, fails);
    }
