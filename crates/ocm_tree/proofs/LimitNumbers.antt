use Rattle.std.proofs.Common.{◌≡◌, ℕ, ◌+◌, ◌-◌, ◌<◌, ◌≤◌, List, length, false, cond, Some, None, refl, arith}
use Rattle.std.specs.Prelude.{nat_lt}
use Rattle.std.proofs.lemmas.Bool.Decides.{nat_tests}
use Rattle.ocm_types.specs.declared.phases.Which.TheVariants.{FileSize}
use Rattle.ocm_entry.specs.declared.rows.Node.{Node}
use Rattle.ocm_rules.specs.Files.{parent_of, with_node, size_of, total_size, child_count, limit_of}
use Rattle.ocm_rules.specs.State.{node_at}
use Rattle.ocm_tree.specs.Tables.{size_at, growth, first_passed}
use Rattle.ocm_tree.proofs.NodeLists.{total_size-with_node, size_at-le-total_size, length-with_node, child_count-with_node}

-- four numbers within the limits
pub record AreWithin (bytes all count below : ℕ) : Type 0 where
  pub size : bytes ≤ 1048576
  pub total : all ≤ 268435456
  pub nodes : count ≤ 65536
  pub children : below ≤ 4096

pub none-within : (size total count children : ℕ) → cond (nat_lt 1048576 size) (Some FileSize) (first_passed total count children) ≡ None → AreWithin size total count children
none-within size total count children e = record {
  size = grind (arith, nat_tests);
  total = grind (arith, nat_tests);
  nodes = grind (arith, nat_tests);
  children = grind (arith, nat_tests);
}

-- where no limit is passed, each number is within its limit
pub limit_of-none : (ns : List Node) (n : Node) → limit_of ns n ≡ None → AreWithin (size_of n.standing) (total_size (with_node ns n)) (length (with_node ns n)) (child_count (with_node ns n) (parent_of n.place))
limit_of-none ns n e = none-within (size_of n.standing) (total_size (with_node ns n)) (length (with_node ns n)) (child_count (with_node ns n) (parent_of n.place)) e

-- the limit that a file of no more than its own limit passes, by the numbers of what stands
pub limit_of-numbers : (ns : List Node) (n : Node) → nat_lt 1048576 (size_of n.standing) ≡ false → limit_of ns n ≡ first_passed (total_size ns - size_at (node_at ns n.place) + size_of n.standing) (length ns + growth (node_at ns n.place)) (child_count ns (parent_of n.place) + growth (node_at ns n.place))
limit_of-numbers ns n small =
    let total : total_size (with_node ns n) ≡ total_size ns - size_at (node_at ns n.place) + size_of n.standing = omega (arith, total_size-with_node ns n, size_at-le-total_size ns n.place) in
    rw (small, total, length-with_node ns n, child_count-with_node ns n) refl

-- where no limit is passed by one more node, there is a place for it
pub limit_of-few : (ns : List Node) (n : Node) → node_at ns n.place ≡ None → limit_of ns n ≡ None → length ns < 65536
limit_of-few ns n absent e =
    let longer : length (with_node ns n) ≡ length ns + 1 = rw absent at (length-with_node ns n) in
    omega (arith, longer, (limit_of-none ns n e).nodes)

-- where no limit is passed by one more node, its bytes fit
pub limit_of-light : (ns : List Node) (n : Node) → node_at ns n.place ≡ None → limit_of ns n ≡ None → total_size ns + size_of n.standing ≤ 268435456
limit_of-light ns n absent e =
    let sums : total_size (with_node ns n) + 0 ≡ total_size ns + size_of n.standing = rw absent at (total_size-with_node ns n) in
    omega (arith, sums, (limit_of-none ns n e).total)
