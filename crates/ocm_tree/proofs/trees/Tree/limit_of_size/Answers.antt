use Rattle.std.proofs.Common.{◌≡◌, ◌∙◌, sym, false, arith}
use Rattle.std.specs.Prelude.{nat_lt}
use Rattle.std.proofs.lemmas.Bool.Decides.{nat_tests}
use Rattle.ocm_entry.specs.declared.rows.Node.{Node}
use Rattle.ocm_rules.specs.Files.{size_of}
use Rattle.ocm_tree.specs.Tables.{somes}
use Rattle.ocm_tree.proofs.NodeLists.{size_at-le-total_size}
use Rattle.ocm_tree.proofs.LimitNumbers.{limit_of-numbers}
use Rattle.ocm_tree.proofs.trees.Tree.limit_of_size.Goals as goal

pub overflow_sub-total : goal.overflow_sub-total
overflow_sub-total c =
    rw (c.size_at.ensures, c.total_size.ensures.total, c.node_at-older.ensures) (size_at-le-total_size (somes c.self.inside.table.slots) c.args.place.now)

pub returns : goal.returns
returns c = λ standing same.
    let node : Node = record { place = c.args.place.now; standing = standing } in
    let small : nat_lt 1048576 (size_of standing) ≡ false = grind (arith, nat_tests, same, c.requires.small) in
    let numbers = limit_of-numbers (somes c.self.inside.table.slots) node small in
    let lie = rw c.requires.parent at c.child_count.ensures.count in
    rw (← c.self.view_is) (c.first_passed.ensures ∙ rw (c.from.ensures, c.from-children.ensures, c.growth-more.ensures, c.size_at.ensures, c.node_at-older.ensures, c.total_size.ensures.total, c.len.ensures.len, lie, ← same) (sym numbers))
