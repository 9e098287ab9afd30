use Rattle.std.proofs.Common.{◌≡◌, ◌<◌, ◌≤◌, ◌-◌, ◌+◌, ◌++◌, length, true}
use Rattle.std.specs.Prelude.{reverse}
use Rattle.ocm_chain.specs.Owners.{owners_of, owns_at, numbers_up}
use Rattle.ocm_chain.proofs.owners.OwnerIndex.owned.Given as goal

abbrev pub invariant-loop-number : goal.invariant-loop-number
invariant-loop-number g l = record {
  within : l.number ≤ length l.self-inside.links.items;
  here : 0 < l.number → owns_at (owners_of l.self-inside.links.items) l.fn.owner (l.number - 1) ≡ true;
  rest : numbers_up (owners_of l.self-inside.links.items) l.fn.owner (length l.self-inside.links.items) ≡ numbers_up (owners_of l.self-inside.links.items) l.fn.owner l.number ++ reverse l.numbers.items;
  spent : l.steps ≡ l.initial.steps + length l.numbers.items;
}

abbrev pub decreases-loop-number : goal.decreases-loop-number
decreases-loop-number g l = l.number
