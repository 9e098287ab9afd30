-- The places of a shelf.
use Rattle.std.specs.Prelude.{◌≡◌, ◌==◌, ℕ, List, [], ◌∷◌, length, Bool, false, bytes_eq, is_none, Option, Some, None, option_map, if◌then◌else◌}
use Rattle.std.specs.List.{list_any}
use Rattle.ocm_limits.specs.Limits.{most_servers}
use Rattle.ocm_disk.specs.Memory.{DiskState}
use Rattle.ocm_disk.specs.declared.shelf.ShelfPlace.{ShelfPlace}
use Rattle.ocm_disk.specs.declared.shelf.ShelfFault.{ShelfFault}
use Rattle.ocm_disk.specs.declared.shelf.ShelfFault.TheVariants.{Taken, Full, NoMemory}

-- whether it is this host's place
abbrev pub is_of : List ℕ → ShelfPlace → Bool
is_of host place = bytes_eq place.host host

-- whether the host has a place
abbrev pub has_place : List ℕ → List ShelfPlace → Bool
has_place host places = list_any (is_of host) places

-- the disk at the host's place
abbrev pub disk_of : List ℕ → List ShelfPlace → Option DiskState
disk_of host [] = None
disk_of host (place ∷ places) = if is_of host place then place.disk else disk_of host places

-- whether the host has a place that is empty
abbrev pub is_vacant : List ℕ → List ShelfPlace → Bool
is_vacant host [] = false
is_vacant host (place ∷ places) = if is_of host place then is_none place.disk else is_vacant host places

-- the places with this at the host's
abbrev pub with_disk : List ℕ → Option DiskState → List ShelfPlace → List ShelfPlace
with_disk host disk [] = []
with_disk host disk (place ∷ places) = if is_of host place then record { host = place.host; disk = disk } ∷ places else place ∷ with_disk host disk places

-- why a further host gets no place
abbrev pub refusal : List ℕ → List ShelfPlace → Option ShelfFault
refusal host places = if has_place host places then Some Taken else (if length places == most_servers then Some Full else None)

-- a fault is told exactly where there is one, and want of memory only where there is none
abbrev pub IsTold : ShelfFault → Option ShelfFault → Type 0
IsTold Taken refusal = refusal ≡ Some Taken
IsTold Full refusal = refusal ≡ Some Full
IsTold NoMemory refusal = refusal ≡ None

-- what a read of the disk returns
abbrev pub bytes_of : Option DiskState → Option (List ℕ)
bytes_of disk = option_map (λ (d : DiskState). d.images.seen) disk
