use Rattle.std.specs.Prelude.{◌≡◌, ℕ, ◌+◌, ◌<◌, ◌≤◌, List, [], ◌∷◌, length, map, nat_lt, slice_index_or, slice_set, Bool, true, false, if◌then◌else◌, Option, Some, None, is_some, option_map}
use Rattle.std.specs.HashMap as hash
use Rattle.std.specs.HashMap.{HashMap}
use Rattle.std.specs.declared.hash.FoldHasher.{FoldHasher}
use Rattle.std.specs.declared.hash.BuildHasherDefault.{BuildHasherDefault}
use Rattle.ocm_limits.specs.Limits.{most_children, most_nodes, most_stored_bytes}
use Rattle.ocm_types.specs.declared.phases.Which.{Which}
use Rattle.ocm_types.specs.declared.phases.Which.TheVariants.{AllFiles, Nodes, Children}
use Rattle.ocm_entry.specs.declared.rows.Place.{Place}
use Rattle.ocm_entry.specs.declared.rows.Standing.{Standing}
use Rattle.ocm_entry.specs.declared.rows.Standing.TheVariants.{Collection}
use Rattle.ocm_entry.specs.declared.rows.Node.{Node}
use Rattle.ocm_rules.specs.Files.{same_place, is_at_or_above, parent_of, with_roots, size_of, total_size, child_count}
use Rattle.ocm_rules.specs.State.{node_at, EachOnce}

-- an index from places to numbers
abbrev pub Index : Type 0
Index = HashMap Place ℕ (BuildHasherDefault FoldHasher)

-- how many nodes come before the one that stands at a place
abbrev pub index_of : List Node → Place → Option ℕ
index_of [] place = None
index_of (node ∷ nodes) place = if same_place node.place place then Some 0 else option_map (λ i. i + 1) (index_of nodes place)

-- slots, each of a node or empty where a node was
abbrev pub Slots : Type 0
Slots = List (Option Node)

-- the nodes in the slots
abbrev pub somes : Slots → List Node
somes [] = []
somes (None ∷ slots) = somes slots
somes (Some node ∷ slots) = node ∷ somes slots

-- whether the node of a slot passes a test; an empty slot does not
abbrev pub slot_passes : (Node → Bool) → Option Node → Bool
slot_passes test None = false
slot_passes test (Some node) = test node

-- how many slots come before that of the node at a place
abbrev pub slot_of : Slots → Place → Option ℕ
slot_of [] place = None
slot_of (None ∷ slots) place = option_map (λ i. i + 1) (slot_of slots place)
slot_of (Some node ∷ slots) place = if same_place node.place place then Some 0 else option_map (λ i. i + 1) (slot_of slots place)

-- a slot once nothing stands any more at a place and below it
abbrev pub cleared : Place → Option Node → Option Node
cleared there None = None
cleared there (Some node) = if is_at_or_above there node.place then None else Some node

-- whether the node of the slot of this index lies at or below a place, and no other node does
pub record IsLone (slots : Slots) (there : Place) (index : ℕ) : Type 0 where
  pub within : index < length slots
  pub lies : slot_passes (λ (n : Node). is_at_or_above there n.place) (slice_index_or slots index None) ≡ true
  pub others : slice_set slots index None ≡ map (cleared there) slots

-- what is seen of slots with their indexes: the slots, and for how many more nodes there is room without memory
pub record SlotLists : Type 0 where
  pub slots : Slots
  pub room : ℕ

-- whether what stands at each place lies in a root or where something stands
abbrev pub IsRooted : List Node → Type 0
IsRooted nodes = (place : Place) → is_some (node_at nodes place) ≡ true → is_some (with_roots (node_at nodes) (parent_of place)) ≡ true

-- whether nothing stands below a place
abbrev pub IsLeaf : List Node → Place → Type 0
IsLeaf nodes there = (place : Place) → is_some (node_at nodes place) ≡ true → is_at_or_above there place ≡ true → place ≡ there

-- the bytes of what stands at a place
abbrev pub size_at : Option Standing → ℕ
size_at None = 0
size_at (Some standing) = size_of standing

-- how many more nodes there are once something stands where this stood
abbrev pub growth : Option Standing → ℕ
growth None = 1
growth (Some standing) = 0

-- a count that is kept from the first on
abbrev pub counted : Option ℕ → ℕ
counted None = 0
counted (Some count) = count

-- the first limit that is passed by the bytes of all files, the number of nodes and that of a collection's nodes
abbrev pub first_passed : ℕ → ℕ → ℕ → Option Which
first_passed total count children =
    if nat_lt most_stored_bytes total then Some AllFiles
    else (if nat_lt most_nodes count then Some Nodes
    else (if nat_lt most_children children then Some Children else None))

-- what a tree keeps: a collection for the users' roots, nodes within the limits of a server, each place once, the indexes, the sum and the count of these nodes, and whether each lies where something stands
pub record IsTable (root : Standing) (slots : Slots) (places children : Index) (count total : ℕ) (rooted : Bool) : Type 0 where
  pub at_root : root ≡ Collection
  pub once : EachOnce (somes slots)
  pub found : (place : Place) → hash.get same_place places place ≡ slot_of slots place
  pub counts : (place : Place) → counted (hash.get same_place children place) ≡ child_count (somes slots) place
  pub adds_up : total ≡ total_size (somes slots)
  pub counted_up : count ≡ length (somes slots)
  pub few : length (somes slots) ≤ most_nodes
  pub light : total_size (somes slots) ≤ most_stored_bytes
  pub lies : rooted ≡ true → IsRooted (somes slots)
