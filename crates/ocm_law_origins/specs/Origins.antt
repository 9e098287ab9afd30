use Rattle.std.specs.Prelude.{◌≡◌, ℕ, ◌+◌, List, [], ◌∷◌, ◌++◌, length, map, filter, nat_eq, Bool, not, if◌then◌else◌, Option, Some, None}
use Rattle.ocm_entry.specs.declared.entries.Entry.{Entry}
use Rattle.ocm_entry.specs.declared.rows.Place.{Place}
use Rattle.ocm_entry.specs.declared.rows.Standing.{Standing}
use Rattle.ocm_entry.specs.declared.rows.Node.{Node}
use Rattle.ocm_rules.specs.Files.{Act, Placed, Gone, Carried, act_after, same_place, is_at_or_above, moved}
use Rattle.ocm_rules.specs.Lean.{stays_at}
use Rattle.ocm_rules.specs.State.{node_at}

-- ---- where what stands comes from

-- a place, and the number of the kept entry that put what stands there; the oldest entry has the number 1
pub record Origin : Type 0 where
  pub place : Place
  pub number : ℕ

-- whether what stands comes from the entry of this number
abbrev pub is_from : ℕ → Origin → Bool
is_from k origin = nat_eq origin.number k

-- the origins once something stands at a place: in the place of what stood there, or as one more
abbrev pub with_origin : List Origin → Origin → List Origin
with_origin [] origin = origin ∷ []
with_origin (other ∷ others) origin = if same_place other.place origin.place then origin ∷ others else other ∷ with_origin others origin

-- the origins of what stands at and below the first place, as it stands at and below the second
abbrev pub copied : Place → Place → List Origin → List Origin
copied from to origins =
    map (λ (o : Origin). record { place = moved from to o.place; number = o.number }) (filter (λ (o : Origin). is_at_or_above from o.place) origins)

-- whether what has this origin stays where it stands at a copy or move
abbrev pub origin_stays : Place → Place → Bool → Origin → Bool
origin_stays from to moving o = stays_at from to moving o.place

-- the origins after this was done by the entry of this number
abbrev pub origins_after : Option Act → ℕ → List Origin → List Origin
origins_after None number origins = origins
origins_after (Some (Placed there standing)) number origins = with_origin origins (record { place = there; number = number })
origins_after (Some (Gone there)) number origins = filter (λ (o : Origin). not (is_at_or_above there o.place)) origins
origins_after (Some (Carried from to moving)) number origins = filter (origin_stays from to moving) origins ++ copied from to origins

-- where all that stands comes from, after a list of kept entries
abbrev pub origins : List ℕ → List Entry → List Origin
origins host [] = []
origins host (e ∷ before) = origins_after (act_after host before e.ask) (length before + 1) (origins host before)

-- ---- what entries put

-- what is put at a place by this
abbrev pub put_of : Option Act → Option Standing
put_of (Some (Placed there standing)) = Some standing
put_of _ = None

-- what the kept entry of this number put at a place
abbrev pub put_by : List ℕ → List Entry → ℕ → Option Standing
put_by host [] k = None
put_by host (e ∷ before) k = if nat_eq k (length before + 1) then put_of (act_after host before e.ask) else put_by host before k

-- ---- nodes and their origins

-- these are the origins of these nodes: they have the same places in the same order
abbrev pub HaveSamePlaces : List Origin → List Node → Type 0
HaveSamePlaces origins nodes = map (λ (o : Origin). o.place) origins ≡ map (λ (n : Node). n.place) nodes

-- this is the origin of this node, where each entry put this: at the node's place, and what its entry put is what stands there
abbrev pub IsOriginOf : (ℕ → Option Standing) → Origin → Node → Type 0
IsOriginOf put origin node = (origin.place ≡ node.place) × (put origin.number ≡ Some node.standing)

-- what stands by the entry of this number: what stands among the nodes at the place of the first origin with this number
abbrev pub body_from : List Node → List Origin → ℕ → Option Standing
body_from nodes [] k = None
body_from nodes (origin ∷ origins) k = if is_from k origin then node_at nodes origin.place else body_from nodes origins k

-- what stands beside the first origin with this number, where nodes and origins are in the same order
abbrev pub body_beside : List Node → List Origin → ℕ → Option Standing
body_beside [] origins k = None
body_beside (node ∷ nodes) [] k = None
body_beside (node ∷ nodes) (origin ∷ origins) k = if is_from k origin then Some node.standing else body_beside nodes origins k
