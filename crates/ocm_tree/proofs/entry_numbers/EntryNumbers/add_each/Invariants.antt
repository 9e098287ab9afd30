use Rattle.std.proofs.Common.{◌≡◌, ◌++◌, ◌≤◌, ◌+◌, length, take}
use Rattle.ocm_tree.proofs.entry_numbers.EntryNumbers.add_each.Given as goal

abbrev pub invariant-loop-number : goal.invariant-loop-number
invariant-loop-number l = record {
  numbers : l.self.numbers ≡ l.initial.self.numbers ++ take l.number-index l.more;
  room : length l.more ≤ l.self.room + l.number-index;
}
