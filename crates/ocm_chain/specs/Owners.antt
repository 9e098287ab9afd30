use Rattle.std.specs.Prelude.{◌≡◌, ℕ, zero, suc, ◌≤◌, List, [], ◌∷◌, ◌++◌, length, map, nat_eq, slice_get, Bool, if◌then◌else◌, Some, unwrap_or, false}
use Rattle.std.specs.Option.{option_map_or}
use Rattle.std.specs.HashMap as hash
use Rattle.std.specs.HashMap.{HashMap}
use Rattle.std.specs.declared.hash.FoldHasher.{FoldHasher}
use Rattle.std.specs.declared.hash.BuildHasherDefault.{BuildHasherDefault}
use Rattle.ocm_limits.specs.Limits.{most_shares}
use Rattle.ocm_chain.specs.declared.owners.OwnedLink.{OwnedLink}

-- the owners of the shares, and how many more can be added without memory
pub record OwnerLists : Type 0 where
  pub owners : List ℕ
  pub room : ℕ

abbrev pub owners_of : List OwnedLink → List ℕ
owners_of links = map (λ (link : OwnedLink). link.owner) links

-- whether the owner at an index is this one
abbrev pub owns_at : List ℕ → ℕ → ℕ → Bool
owns_at owners owner k = option_map_or (λ other. nat_eq other owner) (slice_get owners k) false

-- the numbers up to one that are an owner's, ascending
abbrev pub numbers_up : List ℕ → ℕ → ℕ → List ℕ
numbers_up owners owner zero = []
numbers_up owners owner (suc k) = numbers_up owners owner k ++ (if owns_at owners owner k then suc k ∷ [] else [])

-- the last of these, and 0 where there is none
abbrev pub last_up : List ℕ → ℕ → ℕ → ℕ
last_up owners owner zero = 0
last_up owners owner (suc k) = if owns_at owners owner k then suc k else last_up owners owner k

-- each link leads to the owner's share before it, and the map to the owner's last
pub record IsOwnerIndex (links : List OwnedLink) (last : HashMap ℕ ℕ (BuildHasherDefault FoldHasher)) : Type 0 where
  pub few : length links ≤ most_shares
  pub lasts : (owner : ℕ) → unwrap_or (hash.get nat_eq last owner) 0 ≡ last_up (owners_of links) owner (length links)
  pub earlier : (k : ℕ) (link : OwnedLink) → slice_get links k ≡ Some link → link.earlier ≡ last_up (owners_of links) link.owner k
