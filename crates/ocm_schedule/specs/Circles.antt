-- Owners that take turns: those that have places stand in a circle, and the first one's first place has its turn.
use Rattle.std.specs.Prelude.{◌≡◌, ℕ, ◌<◌, Bool, true, false, ◌==◌, if◌then◌else◌, List, [], ◌∷◌, ◌++◌, slice_index_or, map, count_by, Option, Some, None}
use Rattle.std.specs.List.{AllByRecursion}
use Rattle.ocm_schedule.specs.declared.places.Place.{Place}

-- an owner in the circle, and its places, the first one first
pub record Line : Type 0 where
  pub owner : ℕ
  pub places : List Place

-- a circle, with how many owners it has a list for, and for how many more of them it has room
pub record Room : Type 0 where
  pub lines : List Line
  pub owners : ℕ
  pub room : ℕ

abbrev pub some : List Place → Bool
some [] = false
some (p ∷ ps) = true

abbrev pub first_of : List Place → Option Place
first_of [] = None
first_of (p ∷ ps) = Some p

abbrev pub behind : List Place → List Place
behind [] = []
behind (p ∷ ps) = ps

-- a place joins behind those of its owner, which goes to the end if it had none
abbrev pub joined : List Line → Place → List Line
joined [] p = record { owner = p.owner; places = p ∷ [] } ∷ []
joined (l ∷ ls) p = if l.owner == p.owner then record { owner = l.owner; places = l.places ++ p ∷ [] } ∷ ls else l ∷ joined ls p

-- the first of these places joins
abbrev pub joined_first : List Line → List Place → List Line
joined_first ls [] = ls
joined_first ls (p ∷ ps) = joined ls p

-- whether somebody stands in the circle
abbrev pub stands : List Line → Bool
stands [] = false
stands (l ∷ ls) = true

-- the place whose turn it is
abbrev pub first_in : List Line → Option Place
first_in [] = None
first_in (l ∷ ls) = first_of l.places

-- a turn: the place leaves, and its owner goes to the end if it has more
abbrev pub turned : List Line → List Line
turned [] = []
turned (l ∷ ls) = if some (behind l.places) then ls ++ record { owner = l.owner; places = behind l.places } ∷ [] else ls

-- all places of a circle
abbrev pub places_in : List Line → List Place
places_in [] = []
places_in (l ∷ ls) = l.places ++ places_in ls

-- ---- how a circle is kept

-- the circle of the owners in this order, with a list of places for each owner by its number
abbrev pub lines_of : List (List Place) → List ℕ → List Line
lines_of own order = map (λ a. record { owner = a; places = slice_index_or own a [] }) order

-- each owner that has places stands in the order, once, and no other does
abbrev pub IsCircle : List (List Place) → List ℕ → Type 0
IsCircle own order = (a : ℕ) → count_by (λ b. b == a) order ≡ (if some (slice_index_or own a []) then 1 else 0)

-- an order with one more at its end, if it goes there
abbrev pub with_last : Bool → List ℕ → ℕ → List ℕ
with_last true order a = order ++ a ∷ []
with_last false order a = order

-- two of these have the same places for each owner
abbrev pub HasSameLists : List (List Place) → List (List Place) → Type 0
HasSameLists old new = (a : ℕ) → slice_index_or new a [] ≡ slice_index_or old a []

-- each place is that of one of so many owners
abbrev pub OwnedWithin : ℕ → List Place → Type 0
OwnedWithin owners = AllByRecursion (λ p. p.owner < owners)
