use Rattle.std.specs.Prelude.{◌≡◌, ℕ, ◌+◌, List, [], ◌∷◌, length, nat_eq, nat_lt, not, ◌&&◌, Bool, count_by, filter, if◌then◌else◌}
use Rattle.std.specs.List.Sorted.{IsNonDecreasingBy}
use Rattle.ocm_tree.specs.declared.orders.NumberedNode.{NumberedNode}

-- the nodes with their numbers, in the order of the slots, where the first has this index
abbrev pub numbered : ℕ → List ℕ → List NumberedNode
numbered index [] = []
numbered index (number ∷ numbers) = record { number = number; index = index } ∷ numbered (index + 1) numbers

-- whether a node has this number and this index
abbrev pub is_node : ℕ → ℕ → NumberedNode → Bool
is_node number index node = nat_eq node.number number && nat_eq node.index index

-- the nodes of this number and later ones
abbrev pub from_number : ℕ → List NumberedNode → List NumberedNode
from_number number order = filter (λ (node : NumberedNode). not (nat_lt node.number number)) order

-- whether nodes of these numbers stand in the order of their numbers: each as often as among the nodes, no later number before an earlier one
pub record IsInOrder (numbers : List ℕ) (order : List NumberedNode) : Type 0 where
  pub each : (number index : ℕ) → count_by (is_node number index) order ≡ count_by (is_node number index) (numbered 0 numbers)
  pub all : length order ≡ length numbers
  pub sorted : IsNonDecreasingBy (λ (node : NumberedNode). node.number) order

-- what callers see of the numbers of nodes: the numbers in the order of the nodes, and for how many more there is room without memory
pub record NumberLists : Type 0 where
  pub numbers : List ℕ
  pub room : ℕ

-- the numbers of the items that pass a test
abbrev pub numbers_where : {X : Type 0} → (X → Bool) → List X → List ℕ → List ℕ
numbers_where p [] numbers = []
numbers_where p (x ∷ xs) [] = []
numbers_where p (x ∷ xs) (number ∷ numbers) = if p x then number ∷ numbers_where p xs numbers else numbers_where p xs numbers
