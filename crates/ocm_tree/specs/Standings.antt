use Rattle.std.specs.Prelude.{ℕ, List, [], ◌∷◌, nat_eq, nat_lt, is_some, slice_get, slice_index_or, Bool, true, false, not, ◌&&◌, if◌then◌else◌, Option, Some, None, option_map}
use Rattle.std.specs.Option.{option_map_or}
use Rattle.ocm_entry.specs.declared.rows.Standing.{Standing}
use Rattle.ocm_entry.specs.declared.rows.Node.{Node}
use Rattle.ocm_rules.specs.Files.{Act, Placed, Gone, Carried, same_place, is_at_or_above, stays}
use Rattle.ocm_law_origins.specs.Origins.{Origin}
use Rattle.ocm_tree.specs.Tables.{Slots}
use Rattle.ocm_tree.specs.Orders.{numbers_where}
use Rattle.ocm_tree.specs.declared.orders.NumberedNode.{NumberedNode}

-- the numbers of the nodes in slots, where these are the numbers of all slots
abbrev pub numbers_in : Slots → List ℕ → List ℕ
numbers_in slots numbers = numbers_where is_some slots numbers

-- the origins of nodes with these numbers
abbrev pub origins_of : List Node → List ℕ → List Origin
origins_of [] numbers = []
origins_of (node ∷ nodes) [] = []
origins_of (node ∷ nodes) (number ∷ numbers) = record { place = node.place; number = number } ∷ origins_of nodes numbers

-- whether a node stays where it stands once this is done
abbrev pub is_left : Option Act → Node → Bool
is_left None n = true
is_left (Some (Placed there standing)) n = not (same_place there n.place)
is_left (Some (Gone there)) n = not (is_at_or_above there n.place)
is_left (Some (Carried from to moving)) n = stays from to moving n

-- whether a node is copied once this is done
abbrev pub is_copied : Option Act → Node → Bool
is_copied (Some (Carried from to moving)) n = is_at_or_above from n.place
is_copied _ n = false

-- what stands by the entry of this number: the first node that has this number and passes a test
abbrev pub first_by : (Node → Bool) → List Node → List ℕ → ℕ → Option Standing
first_by test [] numbers k = None
first_by test (node ∷ nodes) [] k = None
first_by test (node ∷ nodes) (number ∷ numbers) k = if nat_eq number k && test node then Some node.standing else first_by test nodes numbers k

-- what stands by the entry of this number: that of the first slot that has this number and passes a test
abbrev pub first_in : (Option Node → Bool) → Slots → List ℕ → ℕ → Option Standing
first_in test [] numbers k = None
first_in test (slot ∷ slots) [] k = None
first_in test (slot ∷ slots) (number ∷ numbers) k = if nat_eq number k && test slot then option_map (λ (n : Node). n.standing) slot else first_in test slots numbers k

-- whether the slot of this index passes a test
abbrev pub passes_at : (Option Node → Bool) → Slots → ℕ → Bool
passes_at test slots i = option_map_or test (slice_get slots i) false

-- the lesser of two indexes, where there is a first
abbrev pub sooner : Option ℕ → ℕ → Option ℕ
sooner None i = Some i
sooner (Some j) i = if nat_lt i j then Some i else Some j

-- the least index that passes a test, of a first one and those of nodes
abbrev pub least_among : (ℕ → Bool) → List NumberedNode → Option ℕ → Option ℕ
least_among test [] first = first
least_among test (node ∷ nodes) first = least_among test nodes (if test node.index then sooner first node.index else first)

-- what stands at the node of the slot of an index, where there is one
abbrev pub standing_of : Slots → Option ℕ → Option Standing
standing_of slots None = None
standing_of slots (Some i) = option_map (λ (n : Node). n.standing) (slice_index_or slots i None)
