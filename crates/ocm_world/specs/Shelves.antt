-- The disks of a script's servers on the shelf.
use Rattle.std.specs.Prelude.{◌≡◌, ℕ, List, [], ◌∷◌, ◌++◌, Some, None}
use Rattle.ocm_disk.specs.Memory.{DiskState}
use Rattle.ocm_disk.specs.declared.shelf.ShelfPlace.{ShelfPlace}
use Rattle.ocm_script.specs.declared.events.Event.{Event}
use Rattle.ocm_store.specs.Stores.{LeavesNext}
use Rattle.ocm_script_run.specs.Servers.{Server, World, area}
use Rattle.ocm_script_run.specs.Transcript.{Transcript}

-- A place has the server's host and its disk, whose bytes open to a list with the lean list of its history or, where its disk failed in its session, with that or that and the ask at which it failed.
pub record IsShelved (server : Server) (place : ShelfPlace) : Type 0 where
  pub host : place.host ≡ server.host
  pub disk : DiskState
  pub there : place.disk ≡ Some disk
  pub holds : LeavesNext (record { host = server.host; area = area }) server.base server.calls None disk.images.seen

-- the shelf has the disk of each of these servers, in their order, and no other
abbrev pub AreShelved : World → List ShelfPlace → Type 0
AreShelved [] [] = Unit {0}
AreShelved (server ∷ others) (place ∷ places) = IsShelved server place × AreShelved others places
AreShelved [] (place ∷ places) = ⊥
AreShelved (server ∷ others) [] = ⊥

-- the shelf has the disks of the first of these servers, in their order, and no other
abbrev pub FirstShelved : World → List ShelfPlace → Type 0
FirstShelved world places = (first others : World) × (world ≡ first ++ others) × AreShelved first places

-- the shelf has the disks of all servers that a run of these events leaves
abbrev pub AllShelved : List Event → List ShelfPlace → Type 0
AllShelved events places = (text : List ℕ) × (final : World) × Transcript [] 1 events text final × AreShelved final places

-- What a run that ended early leaves: the shelf has the disks of the first servers that a run of some prefix of the events
-- leaves. It is empty where it has none of them.
abbrev pub PrefixShelved : List Event → List ShelfPlace → Type 0
PrefixShelved events places =
    (front rest : List Event) × (text : List ℕ) × (world : World)
    × (events ≡ front ++ rest) × Transcript [] 1 front text world × FirstShelved world places
