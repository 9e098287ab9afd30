-- What a store stands for.
use Rattle.std.specs.Prelude.{◌≡◌, ◌<◌, ℕ, List, ◌++◌, Option, Some, None, IfSome}
use Rattle.ocm_disk.specs.declared.disk.Disk.{Ghosts}
use Rattle.ocm_entry.specs.declared.asks.Ask.{Ask}
use Rattle.ocm_entry.specs.declared.entries.Entry.{Entry}
use Rattle.ocm_journal.specs.declared.journal.Journal.{Journal}
use Rattle.ocm_journal.specs.Journals as journals
use Rattle.ocm_journal.specs.Journals.{StandsFor}
use Rattle.ocm_rules.specs.Lean.{lean}
use Rattle.ocm_law_sessions.specs.Crashes.{IsNext}
use Rattle.ocm_law_sessions.specs.Readings.{opened}
use Rattle.ocm_law_sessions.specs.Sessions.{IsSession, fault_in}
use Rattle.ocm_law_sessions.specs.Written.{IsSpelled}
use Rattle.ocm_store.specs.declared.stores.Store.{Store}
use Rattle.ocm_store.specs.declared.terms.Terms.{Terms}
use Rattle.ocm_history.specs.Histories.{IsOf, home_of}
use Rattle.ocm_store.specs.Opening.{IsImageIn}

-- the host of a store, and the label of its journal
abbrev pub host_of : {D : Type 0} {disk : Ghosts D} → Store D disk → List ℕ
host_of store = home_of store.history

-- the disk of a store
abbrev pub disk_of : {D : Type 0} {disk : Ghosts D} → Store D disk → D
disk_of store = journals.disk_of store.journal

-- how many bytes each area of its journal has
abbrev pub area_of : {D : Type 0} {disk : Ghosts D} → Store D disk → ℕ
area_of store = journals.area_of store.journal

-- the count of the disk fault that this session told, where it told one
abbrev pub fault_of : {D : Type 0} {disk : Ghosts D} → Store D disk → Option ℕ
fault_of store = store.fault

-- what never changes of a store
abbrev pub terms_of : {D : Type 0} {disk : Ghosts D} → Store D disk → Terms
terms_of store = record { host = host_of store; area = area_of store }

-- the calls h are legal under these terms after the list k that was opened
abbrev pub IsLegalUnder : Terms → List Entry → List Entry → Type 0
IsLegalUnder terms k h = IsSession terms.host terms.area k h

-- What a crash leaves opens to what may follow a session, in which an ask was in flight or none. Its areas have the size that
-- the terms name.
abbrev pub LeavesNext : Terms → List Entry → List Entry → Option Ask → List ℕ → Type 0
LeavesNext terms k h flight bytes = (next : List Entry) × IsImageIn terms.host terms.area next bytes × IsNext terms.host k h flight next

-- a journal holds records, all of them on the disk, that open to a list with the lean list of this history
pub record IsWritten {D : Type 0} (disk : Ghosts D) (host : List ℕ) (g : List Entry) (journal : Journal D disk) : Type 0 where
  pub records : List (List ℕ)
  pub list : List Entry
  pub holds : StandsFor disk host records journal
  pub opens : opened host (journals.form_of journal) records ≡ Some list
  pub same : lean host list ≡ lean host g
  pub spelled : IsSpelled list

-- A store stands for the calls h after the list k that was opened. Whether they are legal is said apart.
pub record Stands {D : Type 0} (disk : Ghosts D) (store : Store D disk) (k h : List Entry) : Type 0 where
  -- its memory is that of the whole history
  pub memory : IsOf store.history (h ++ k)
  -- it is stopped with the count of the fault that this session told, which is its disk's
  pub fault : fault_in h ≡ fault_of store
  pub counted : IfSome (fault_of store) (λ count. (count ≡ disk.count (disk_of store)) × (0 < count))
  -- where it is not stopped, its journal has all of the history
  pub written : disk.tells → fault_of store ≡ None → IsWritten disk (host_of store) (h ++ k) store.journal
  -- what is read of its disk, and what a crash leaves of it, opens to what may follow this session
  pub reads : disk.tells → LeavesNext (terms_of store) k h None (disk.seen (disk_of store))
  pub leaves : disk.tells → (c : List ℕ) → disk.may_leave (disk_of store) c → LeavesNext (terms_of store) k h None c
