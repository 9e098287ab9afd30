-- The live area of a store's journal, and what a call makes of it.
use Rattle.std.specs.Prelude.{◌≡◌, ℕ, List, ◌∷◌, Bool, true, false, Some}
use Rattle.ocm_disk.specs.declared.disk.Disk.{Ghosts}
use Rattle.ocm_entry.specs.declared.asks.Ask.{Ask}
use Rattle.ocm_entry.specs.declared.entries.Entry.{Entry}
use Rattle.ocm_journal.specs.LiveAreas.{HasLive, IsImageLive, LiveArea, goes_to_second, grown}
use Rattle.ocm_rules.specs.History.{kept}
use Rattle.ocm_rules.specs.Lean.{lean}
use Rattle.ocm_law_sessions.specs.Readings.{opened}
use Rattle.ocm_law_sessions.specs.Sessions.{heard}
use Rattle.ocm_law_sessions.specs.Written.{record_of, records_of}
use Rattle.ocm_store.specs.declared.stores.Store.{Store}

-- the live area once an ask with its answer is written behind a history: its record goes behind the others where it has room, and
-- only where it has none are the records of the whole lean list written into the other area
abbrev pub grown_by : List ℕ → ℕ → List Entry → Ask → LiveArea → LiveArea
grown_by host area g ask live = grown area live (record_of live.form (kept host g) (heard host g ask)) (records_of (lean host (heard host g ask ∷ g)))

-- whether the second area becomes live by it
abbrev pub switches_to_second : List ℕ → ℕ → List Entry → Ask → LiveArea → Bool
switches_to_second host area g ask live = goes_to_second area live (record_of live.form (kept host g) (heard host g ask))

-- the live area after a call that made a change, and after one that made none
abbrev pub live_after : Bool → List ℕ → ℕ → List Entry → Ask → LiveArea → LiveArea
live_after true host area g ask live = grown_by host area g ask live
live_after false host area g ask live = live

-- bytes are an image with this live area, which opens to a list with the lean list of a history
abbrev pub OpensLive : List ℕ → ℕ → List Entry → LiveArea → List ℕ → Type 0
OpensLive host area g live bytes = IsImageLive host area live bytes × ((next : List Entry) × (opened host live.form live.records ≡ Some next) × (lean host next ≡ lean host g))

-- the journal of a store has this live area
abbrev pub HasLiveArea : {D : Type 0} (disk : Ghosts D) → List ℕ → LiveArea → Store D disk → Type 0
HasLiveArea disk host live store = HasLive disk host live store.journal
