-- A store that is served, with its log.
use Rattle.std.specs.Prelude.{ℕ, List, Option}
use Rattle.std.specs.List.{AllByRecursion}
use Rattle.ocm_disk.specs.declared.disk.Disk.{Ghosts}
use Rattle.ocm_entry.specs.declared.entries.Entry.{Entry}
use Rattle.ocm_access_log.specs.Written.{IsLoggable}
use Rattle.ocm_serve_log.specs.Logs.{Holds, lines_since}
use Rattle.ocm_serve_log.specs.declared.logs.Log.{Log}
use Rattle.ocm_serve_store.specs.Following.{StandsSince, store_of}
use Rattle.ocm_serve_store.specs.declared.followed.Followed.{Followed}
use Rattle.ocm_store.specs.Stores.{host_of}

-- a store stands for the calls h after the list k that was opened, and its log holds their lines, each of which can be written and is read back
abbrev pub StandsLogged : {D K : Type 0} (disk : Ghosts D) → (K → Option (List ℕ)) → (K → ℕ) → Followed D disk → Log K → List Entry → List Entry → Type 0
StandsLogged disk taken faults followed log k h =
    StandsSince disk followed k h × Holds taken faults log (lines_since (host_of (store_of followed)) k h) × AllByRecursion IsLoggable (lines_since (host_of (store_of followed)) k h)
