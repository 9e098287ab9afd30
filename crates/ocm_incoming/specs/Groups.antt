use Rattle.std.specs.Prelude.{◌≡◌, ℕ, ◌+◌, ◌-◌, ◌<◌, ◌≤◌, List, [], ◌∷◌, length, take, nat_eq, Bool, if◌then◌else◌, unwrap_or, slice_index, slice_index_or, ◌&&◌, count_by}
use Rattle.std.specs.HashMap as map
use Rattle.std.specs.HashMap.{HashMap}
use Rattle.std.specs.declared.hash.FoldHasher.{FoldHasher}
use Rattle.std.specs.declared.hash.BuildHasherDefault.{BuildHasherDefault}
use Rattle.ocm_limits.specs.Limits.{most_records}
use Rattle.ocm_incoming.specs.declared.tallies.Tag.{Tag}

-- the numbers of those that pass, ascending, where the first of the list has this number
abbrev pub numbers_from : {X : Type 0} → (X → Bool) → ℕ → List X → List ℕ
numbers_from p n [] = []
numbers_from p n (x ∷ xs) = if p x then n ∷ numbers_from p (n + 1) xs else numbers_from p (n + 1) xs

-- the numbers of those that pass, ascending, counted from 1
abbrev pub numbers_where : {X : Type 0} → (X → Bool) → List X → List ℕ
numbers_where p xs = numbers_from p 1 xs

-- the numbers of the members of a group, ascending, where each member is given by the number of its group
abbrev pub members : List ℕ → ℕ → List ℕ
members groups group = numbers_where (nat_eq group) groups

-- the number of the last member of a group among the first ones of a list, or 0 where there is none
pub record IsLastOf (groups : List ℕ) (group count last : ℕ) : Type 0 where
  pub within : last ≤ count
  pub belongs : 0 < last → slice_index groups (last - 1) ≡ group
  pub alone : members (take count groups) group ≡ members (take last groups) group

-- an index from numbers to numbers
abbrev pub Places : Type 0
Places = HashMap ℕ ℕ (BuildHasherDefault FoldHasher)

-- the number that is kept for a group, or 0 where there is none
abbrev pub kept_for : Places → ℕ → ℕ
kept_for places group = unwrap_or (map.get nat_eq places group) 0

-- what callers see of a chain: the group of each member, and how many more members it takes without memory
pub record ChainRows : Type 0 where
  pub groups : List ℕ
  pub room : ℕ

-- each member knows the one before it in its group, and the last member of each group is kept
pub record IsChain (groups earlier : List ℕ) (last : Places) : Type 0 where
  pub few : length groups ≤ most_records
  pub linked : length earlier ≡ length groups
  pub links : (i : ℕ) → i < length groups → IsLastOf groups (slice_index groups i) i (slice_index earlier i)
  pub lasts : (group : ℕ) → IsLastOf groups group (length groups) (kept_for last group)

-- ---- how many members of a group count

-- whether a member is of this group, and counts
abbrev pub counts_for : ℕ → Tag → Bool
counts_for group tag = nat_eq tag.group group && tag.counts

-- what a member adds to the count of its group, by whether it counts
abbrev pub one_if : Bool → ℕ
one_if counts = if counts then 1 else 0

-- how many members of a group count
abbrev pub counted : List Tag → ℕ → ℕ
counted tags group = count_by (counts_for group) tags

-- a member that counts from now on, or does not
abbrev pub recounted : Bool → Tag → Tag
recounted counts tag = record { group = tag.group; counts = counts }

-- what callers see of a tally: the members, and how many more it takes without memory
pub record TallyRows : Type 0 where
  pub tags : List Tag
  pub room : ℕ

-- a number of one of so many
pub record IsNumberOf (count group : ℕ) : Type 0 where
  pub from_one : 0 < group
  pub within : group ≤ count

-- the counts are those of the groups, each of which has the number of a member
pub record IsTally (tags : List Tag) (counts : List ℕ) : Type 0 where
  pub few : length tags ≤ most_records
  pub each : length counts ≡ length tags
  pub grouped : (i : ℕ) (d : Tag) → i < length tags → IsNumberOf (length tags) (slice_index_or tags i d).group
  pub kept : (i : ℕ) → slice_index counts i ≡ counted tags (i + 1)
