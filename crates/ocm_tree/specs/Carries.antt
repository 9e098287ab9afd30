use Rattle.std.specs.Prelude.{◌≡◌, ℕ, ◌+◌, ◌&&◌, Bool, List, if◌then◌else◌, false, length, map, sum_by, Option, Some, None}
use Rattle.ocm_types.specs.declared.phases.Which.{Which}
use Rattle.ocm_entry.specs.declared.rows.Place.{Place}
use Rattle.ocm_entry.specs.declared.rows.Node.{Node}
use Rattle.ocm_rules.specs.Files.{same_place, is_at_or_above, parent_of, moved, stays, size_of, is_too_long, total_size, child_count, nodes_after, Carried}
use Rattle.ocm_tree.specs.Tables.{Slots, cleared, first_passed, IsLone}
use Rattle.ocm_tree.specs.declared.amounts.Amount.{Amount}
use Rattle.ocm_tree.specs.declared.amounts.Amounts.{Amounts}
use Rattle.ocm_tree.specs.declared.amounts.Amount.TheVariants.{Bytes, Nodes, Siblings}

-- what callers see of a copy or move that is about to be made: where from and to, whether it moves, and the nodes that it makes
pub record CarryLists : Type 0 where
  pub from : Place
  pub to : Place
  pub moving : Bool
  pub nodes : List Node

-- a node as it stands once carried
abbrev pub carried : Place → Place → Node → Node
carried from to n = record { place = moved from to n.place; standing = n.standing }

-- what a node at this place adds to an amount: its bytes, one node, or one node where it lies in the collection of the second place
abbrev pub weight : Amount → Place → Node → ℕ
weight Bytes to n = size_of n.standing
weight Nodes to n = 1
weight Siblings to n = if same_place (parent_of n.place) (parent_of to) then 1 else 0

-- what a node adds to an amount after a copy or move: where it stays, and where it is copied to
abbrev pub amount_of : Amount → Place → Place → Bool → Node → ℕ
amount_of what from to moving n =
    (if stays from to moving n then weight what to n else 0) + (if is_at_or_above from n.place then weight what to (carried from to n) else 0)

-- what the node of a slot adds to an amount after a copy or move
abbrev pub amount_in : Amount → Place → Place → Bool → Option Node → ℕ
amount_in what from to moving None = 0
amount_in what from to moving (Some n) = amount_of what from to moving n

-- what the node of a slot adds to an amount as it stands
abbrev pub weight_in : Amount → Place → Option Node → ℕ
weight_in what to None = 0
weight_in what to (Some n) = weight what to n

-- these are the amounts that a function tells
pub record AreAmounts (amounts : Amounts) (amount : Amount → ℕ) : Type 0 where
  pub bytes : amounts.bytes ≡ amount Bytes
  pub nodes : amounts.nodes ≡ amount Nodes
  pub siblings : amounts.siblings ≡ amount Siblings

-- what is known where the slot of this index has the only node at and below a first place, nothing stands at a second one and below it, and these are the amounts of the nodes as they stand
pub record IsLoneCarry (slots : Slots) (from to : Place) (index : ℕ) (all : Amounts) : Type 0 where
  pub lone : IsLone slots from index
  pub bare : slots ≡ map (cleared to) slots
  pub amounts : AreAmounts all (λ what. sum_by (weight_in what to) slots)

-- the nodes after a copy or move
abbrev pub after : Place → Place → Bool → List Node → List Node
after from to moving nodes = nodes_after (Some (Carried from to moving)) nodes

-- whether a node is copied to a path that is too long
abbrev pub makes_long_path : Place → Place → Node → Bool
makes_long_path from to n = is_at_or_above from n.place && is_too_long (carried from to n)

-- whether the node of a slot is copied to a path that is too long
abbrev pub makes_long : Place → Place → Option Node → Bool
makes_long from to None = false
makes_long from to (Some n) = makes_long_path from to n

-- the first limit that is passed by the numbers of what stands after a copy or move
abbrev pub limit_after : List Node → Place → Place → Bool → Option Which
limit_after nodes from to moving = first_passed (total_size (after from to moving nodes)) (length (after from to moving nodes)) (child_count (after from to moving nodes) (parent_of to))
