-- What an append of a change's record did to a journal, and what the whole change makes of it.
use Rattle.std.specs.Prelude.{◌≡◌, ◌⊎◌, ◌<◌, ◌↔◌, ℕ, ◌+◌, List, [], ◌∷◌, ◌++◌, length, Bool, false, Option, Some, None, Result, IfErr, IsErr, IsErrOf, IsOk, OnOk}
use Rattle.ocm_disk.specs.Disk.{LeavesOnly}
use Rattle.ocm_disk.specs.declared.disk.Disk.{Ghosts}
use Rattle.ocm_entry.specs.declared.asks.Ask.{Ask}
use Rattle.ocm_entry.specs.declared.entries.Entry.{Entry}
use Rattle.ocm_history_records.specs.declared.drafts.Draft.{Draft}
use Rattle.ocm_history.specs.declared.histories.History.{History}
use Rattle.ocm_history.specs.Changes.{FitsInto, IsChange}
use Rattle.ocm_history.specs.Histories.{home_of}
use Rattle.ocm_journal.specs.AfterFaults.{AfterFault}
use Rattle.ocm_journal.specs.declared.appending.AppendFault.{AppendFault}
use Rattle.ocm_journal.specs.declared.appending.AppendFault.TheVariants as appends
use Rattle.ocm_journal.specs.declared.journal.Journal.{Journal}
use Rattle.ocm_journal.specs.Faults as faults
use Rattle.ocm_journal.specs.Journals.{IsBeforeOrAfter, IsFullFor, IsImageWith, IsStopped, SameShape, StandsFor, area_of, disk_of, first_is_live, form_of}
use Rattle.ocm_journal.specs.LiveAreas.{HasLive, LiveArea}
use Rattle.ocm_law_sessions.specs.Sessions.{heard}
use Rattle.ocm_plan.specs.Plans.{Plan}
use Rattle.ocm_store.specs.declared.write_faults.WriteFault.{WriteFault}
use Rattle.ocm_store.specs.declared.write_faults.WriteFault.TheVariants as write_faults
use Rattle.ocm_store.specs.Acts.{IsWithOrWithout, Spends, SpendsNone}
use Rattle.ocm_store.specs.Faults.{HasCount, IsNoDiskFault, stops}
use Rattle.ocm_store.specs.Growing.{OpensLive, grown_by, switches_to_second}
use Rattle.ocm_store.specs.Stores.{IsWritten}

-- what an append of a record with this result made of a journal
pub record IsAppended {D : Type 0} (disk : Ghosts D) (old new : Journal D disk) (text : List ℕ) (result : Result (Unit {0}) AppendFault) : Type 0 where
  pub acknowledged : disk.tells → (label : List ℕ) (records : List (List ℕ)) → StandsFor disk label records old → OnOk result (StandsFor disk label (records ++ text ∷ []) new)
  pub any_moment : disk.tells → (label : List ℕ) (records : List (List ℕ)) → StandsFor disk label records old
      → LeavesOnly disk.moment disk.left_since (disk_of old) (disk_of new) (IsBeforeOrAfter label (area_of old) (form_of old) records text)
  pub full : IsErrOf result appends.Full ↔ IsFullFor old (length text)
  pub unchanged : IsErrOf result appends.Full → new ≡ old
  pub fault : IfErr result (faults.HasCount (disk.count (disk_of old)) (disk.count (disk_of new)))
  pub count : OnOk result (disk.count (disk_of new) ≡ disk.count (disk_of old))
  pub stopped : new.stopped ≡ faults.stops result
  pub shape : SameShape old new
  pub calls : (left : ℕ) → disk.burnt (disk_of old) (left + 4) → OnOk result (disk.burnt (disk_of new) left)
  pub fewer : (left : ℕ) → left < 4 → disk.burnt (disk_of old) left → IsErr result
  pub passes : (calls : ℕ) → disk.passes (disk_of old) (calls + 4) → IsErrOf result appends.Full ⊎ (IsOk result × disk.passes (disk_of new) calls)
  pub after_fault : disk.tells → (label : List ℕ) (records : List (List ℕ)) (left : ℕ) → StandsFor disk label records old → IsStopped new
      → disk.passes (disk_of old) left → disk.burnt (disk_of old) left
      → AfterFault disk left false (IsImageWith (first_is_live old) label (area_of old) (form_of old) records) (IsImageWith (first_is_live old) label (area_of old) (form_of old) (records ++ text ∷ [])) (disk_of new)

-- the same of a record that was appended, or not yet
abbrev pub IsAppendedYet : {D : Type 0} (disk : Ghosts D) → Journal D disk → Journal D disk → List ℕ → Option (Result (Unit {0}) AppendFault) → Type 0
IsAppendedYet disk old new text None = new ≡ old
IsAppendedYet disk old new text (Some result) = IsAppended disk old new text result

-- whether the journal is stopped by it
abbrev pub stopped_by : Option (Result (Unit {0}) AppendFault) → Bool
stopped_by None = false
stopped_by (Some result) = faults.stops result

-- What a change makes of the journal that it is written into: behind its records or, where it would pass the end of the live area,
-- by writing anew all that later replies can depend on.
pub record Writes {D : Type 0} (disk : Ghosts D) (history : History) (plan : Plan) (draft : Draft) (old new : Journal D disk) (result : Result (Unit {0}) WriteFault) : Type 0 where
  pub written : disk.tells → (g : List Entry) (ask : Ask) → IsChange history g ask plan (form_of old) draft → IsWritten disk (home_of history) g old
      → OnOk result (IsWritten disk (home_of history) (heard (home_of history) g ask ∷ g) new)
  -- where it answers that it found no memory, or that the change does not fit, the journal has what it had
  pub unwritten : disk.tells → (g : List Entry) → IsWritten disk (home_of history) g old → IfErr result (λ fault. IsNoDiskFault fault → IsWritten disk (home_of history) g new)
  -- a crash at any moment of the call leaves the history with the change or without it
  pub any_moment : disk.tells → (g : List Entry) (ask : Ask) → IsChange history g ask plan (form_of old) draft → IsWritten disk (home_of history) g old
      → LeavesOnly disk.moment disk.left_since (disk_of old) (disk_of new) (IsWithOrWithout (home_of history) (area_of old) g ask)
  -- a change that fits is not answered `Full`
  pub not_full : (g : List Entry) (ask : Ask) → IsChange history g ask plan (form_of old) draft → FitsInto (area_of old) history g ask → IsErrOf result write_faults.Full → ⊥
  pub fault : IfErr result (HasCount (disk.count (disk_of old)) (disk.count (disk_of new)))
  pub count : OnOk result (disk.count (disk_of new) ≡ disk.count (disk_of old))
  pub stopped : new.stopped ≡ stops result
  pub area : area_of new ≡ area_of old
  -- what is written makes four device calls, and what is not makes none, unless the disk failed
  pub made : OnOk result (Spends disk 4 (disk_of old) (disk_of new))
  pub not_made : IfErr result (λ fault. IsNoDiskFault fault → SpendsNone disk (disk_of old) (disk_of new))
  pub fewer : (left : ℕ) → left < 4 → disk.burnt (disk_of old) left → IsErr result
  pub passes : (calls : ℕ) → disk.passes (disk_of old) (calls + 4) → IfErr result IsNoDiskFault
  -- it goes behind the records of the live area where it has room there, and only where it has none into the other area
  pub live : disk.tells → (g : List Entry) (ask : Ask) (live : LiveArea) → IsChange history g ask plan (form_of old) draft → HasLive disk (home_of history) live old
      → OnOk result (HasLive disk (home_of history) (grown_by (home_of history) (area_of old) g ask live) new)
  pub still : disk.tells → (label : List ℕ) (live : LiveArea) → HasLive disk label live old → IfErr result (λ fault. IsNoDiskFault fault → HasLive disk label live new)
  -- what stands on the disk where its calls ended within the change
  pub after_fault : disk.tells → (g : List Entry) (ask : Ask) (live : LiveArea) (left : ℕ) → IsChange history g ask plan (form_of old) draft → IsWritten disk (home_of history) g old
      → HasLive disk (home_of history) live old → IsStopped new → disk.passes (disk_of old) left → disk.burnt (disk_of old) left
      → AfterFault disk left (switches_to_second (home_of history) (area_of old) g ask live) (OpensLive (home_of history) (area_of old) g live)
      (OpensLive (home_of history) (area_of old) (heard (home_of history) g ask ∷ g) (grown_by (home_of history) (area_of old) g ask live)) (disk_of new)
