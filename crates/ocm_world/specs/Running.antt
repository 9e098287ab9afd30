-- For which servers the stores of this crate stand. A reader of the transcript needs none of it.
use Rattle.std.specs.Prelude.{◌≡◌, ◌⊎◌, ℕ, List, [], ◌∷◌, ◌++◌, Bool, Some, None}
use Rattle.ocm_disk.specs.Memory.{left_by}
use Rattle.ocm_disk.specs.contracts.memory.MemDiskDisk.TheImpl.{ghosts}
use Rattle.ocm_disk.specs.declared.crashes.Crash.{Crash}
use Rattle.ocm_disk.specs.declared.shelf.ShelfPlace.{ShelfPlace}
use Rattle.ocm_entry.specs.declared.entries.Entry.{Entry}
use Rattle.ocm_journal_image.specs.Blank.{IsBlank}
use Rattle.ocm_journal.specs.LiveAreas.{BeginsWith, LiveArea}
use Rattle.ocm_rules.specs.Lean.{lean}
use Rattle.ocm_rules.specs.Numbers.{same_text}
use Rattle.ocm_law_sessions.specs.Crashes.{faulted}
use Rattle.ocm_law_sessions.specs.Sessions.{IsSession, fault_in}
use Rattle.ocm_store.specs.Growing.{HasLiveArea, OpensLive}
use Rattle.ocm_store.specs.Opening.{IsImageIn, OpensTo}
use Rattle.ocm_store.specs.Stores.{Stands, disk_of, terms_of}
use Rattle.ocm_world.specs.declared.nodes.RunningServer.{RunningServer}
use Rattle.ocm_script_run.specs.Running.{IsSound}
use Rattle.ocm_script_run.specs.Servers.{Server, World, area, is_kept, kept_by_crash, live_left}

-- The store of one server stands for it: its calls are the same, and what it opened to has the same lean list.
pub record IsOf (node : RunningServer) (server : Server) : Type 0 where
  pub host : node.host ≡ server.host
  pub clock : node.clock ≡ server.clock
  pub terms : terms_of node.store ≡ record { host = server.host; area = area }
  pub opened : List Entry
  pub stands : Stands ghosts node.store opened server.calls
  pub legal : IsSession server.host area opened server.calls
  pub alike : lean server.host opened ≡ lean server.host server.base
  pub sound : fault_in server.calls ≡ None → IsSound (disk_of node.store) server.fuse
  -- where its disk did not fail in this session, its journal has the server's live area
  pub live : fault_in server.calls ≡ None → HasLiveArea ghosts server.host server.live node.store
  pub uncut : fault_in server.calls ≡ None → server.cut ≡ None
  -- what a crash leaves of its disk is an image with the live area that the server then has, which opens to what it then keeps
  pub crash : (mode : Crash) → OpensLive server.host area (kept_by_crash (is_kept mode server.cut) server.host (faulted server.calls) (server.calls ++ opened)) (live_left (is_kept mode server.cut) server.cut server.live) (left_by mode (disk_of node.store).images)

-- whether this is the server of this host
abbrev pub is_at : List ℕ → RunningServer → Bool
is_at host node = same_text node.host host

-- the stores of the servers stand for them, one by one
abbrev pub AreOf : List RunningServer → World → Type 0
AreOf [] [] = Unit {0}
AreOf (node ∷ more) (server ∷ others) = IsOf node server × AreOf more others
AreOf [] (server ∷ others) = ⊥
AreOf (node ∷ more) [] = ⊥

-- the place of a server's host, with its disk
abbrev pub shelved : RunningServer → ShelfPlace
shelved node = record { host = node.host; disk = Some (disk_of node.store) }

-- a server that was loaded from a disk of these bytes
pub record IsLoaded (bytes own : List ℕ) (time : ℕ) (node : RunningServer) : Type 0 where
  pub host : node.host ≡ own
  pub clock : node.clock ≡ time
  pub terms : terms_of node.store ≡ record { host = own; area = area }
  pub opened : List Entry
  pub opens : OpensTo own area opened bytes
  pub stands : Stands ghosts node.store opened []
  pub legal : IsSession own area opened []
  pub sound : IsSound (disk_of node.store) None
  pub live : (live : LiveArea) → BeginsWith own area bytes live → HasLiveArea ghosts own live node.store

-- A disk of these bytes is that of a script's server: it is blank, or an image with areas of the size of a script's, whose records open to a list.
abbrev pub IsDiskOf : List ℕ → List ℕ → Type 0
IsDiskOf host bytes = IsBlank host area bytes ⊎ ((k : List Entry) × IsImageIn host area k bytes)
