-- What a crash leaves of a change, and what one call of a store does.
use Rattle.std.specs.Prelude.{◌≡◌, ◌⊎◌, ◌<◌, ◌&&◌, ℕ, ◌+◌, List, ◌∷◌, ◌++◌, not, true, false, Some, None}
use Rattle.ocm_base.specs.Outside.{raised}
use Rattle.ocm_disk.specs.Disk.{LeavesOnly}
use Rattle.ocm_disk.specs.declared.disk.Disk.{Ghosts}
use Rattle.ocm_entry.specs.declared.asks.Ask.{Ask}
use Rattle.ocm_entry.specs.declared.entries.Entry.{Entry}
use Rattle.ocm_entry.specs.declared.replies.Reply.{Reply}
use Rattle.ocm_entry.specs.declared.replies.Reply.TheVariants as replies
use Rattle.ocm_journal.specs.AfterFaults.{AfterFault}
use Rattle.ocm_journal.specs.LiveAreas.{LiveArea}
use Rattle.ocm_rules.specs.History.{IsLegal, is_failure}
use Rattle.ocm_rules.specs.Lean.{lean}
use Rattle.ocm_law_sessions.specs.Sessions.{count_of, heard, would_change}
use Rattle.ocm_history.specs.Changes.{told}
use Rattle.ocm_store.specs.declared.stores.Store.{Store}
use Rattle.ocm_store.specs.Growing.{HasLiveArea, OpensLive, grown_by, live_after, switches_to_second}
use Rattle.ocm_store.specs.Opening.{IsImageIn}
use Rattle.ocm_store.specs.Stores.{IsLegalUnder, LeavesNext, Stands, area_of, disk_of, fault_of, host_of, terms_of}

-- an image with areas of this size that opens to a list with the lean list of a history, or of that with an ask and its answer
abbrev pub IsWithOrWithout : List ℕ → ℕ → List Entry → Ask → List ℕ → Type 0
IsWithOrWithout host area g ask bytes =
    (next : List Entry) × IsImageIn host area next bytes × IsLegal host next × ((lean host next ≡ lean host g) ⊎ (lean host next ≡ lean host (heard host g ask ∷ g)))

-- ---- one call

-- so many device calls were made from one state of a disk to another
abbrev pub Spends : {D : Type 0} (disk : Ghosts D) → ℕ → D → D → Type 0
Spends disk calls old new = (left : ℕ) → (disk.burnt old (left + calls) → disk.burnt new left) × (disk.passes old (left + calls) → disk.passes new left)

-- no device call was made from one state of a disk to another
abbrev pub SpendsNone : {D : Type 0} (disk : Ghosts D) → D → D → Type 0
SpendsNone disk old new = (left : ℕ) → (disk.burnt old left → disk.burnt new left) × (disk.passes old left → disk.passes new left)

-- a store that stands for these calls, which are legal
pub record StandsLegally {D : Type 0} (disk : Ghosts D) (store : Store D disk) (k h : List Entry) : Type 0 where
  pub stands : Stands disk store k h
  pub legal : IsLegalUnder (terms_of store) k h

-- what a call makes of the journal of a store, and of its disk where it tells a fault
pub record Grows {D : Type 0} (disk : Ghosts D) (old new : Store D disk) (ask : Ask) (reply : Reply) : Type 0 where
  -- what is made is written behind the records of the live area where it has room there, and only where it has none into the other
  -- area, with all that is kept; what is not made leaves the live area as it is
  pub live : disk.tells → (k h : List Entry) (live : LiveArea) → StandsLegally disk old k h → HasLiveArea disk (host_of old) live old → count_of reply ≡ None
      → HasLiveArea disk (host_of old) (live_after (would_change (host_of old) (h ++ k) ask && not (is_failure reply)) (host_of old) (area_of old) (h ++ k) ask live) new
  -- where the calls of its disk ended within a change, the disk has what was before it, or what it was to make
  pub after_fault : disk.tells → (k h : List Entry) (live : LiveArea) (count left : ℕ) → StandsLegally disk old k h → HasLiveArea disk (host_of old) live old → reply ≡ replies.DiskFault count
      → disk.passes (disk_of old) left → disk.burnt (disk_of old) left
      → AfterFault disk left (switches_to_second (host_of old) (area_of old) (h ++ k) ask live)
      (OpensLive (host_of old) (area_of old) (h ++ k) live)
      (OpensLive (host_of old) (area_of old) (heard (host_of old) (h ++ k) ask ∷ (h ++ k)) (grown_by (host_of old) (area_of old) (h ++ k) ask live)) (disk_of new)
  -- once it has told a fault it leaves the disk alone
  pub stopped : (count : ℕ) → fault_of old ≡ Some count → disk_of new ≡ disk_of old

-- what a call does that answers an ask with a reply
pub record Acts {D : Type 0} (disk : Ghosts D) (old new : Store D disk) (ask : Ask) (reply : Reply) : Type 0 where
  pub terms : terms_of new ≡ terms_of old
  pub stands : (k h : List Entry) → StandsLegally disk old k h → Stands disk new k (told ask reply ∷ h)
  pub legal : (k h : List Entry) → StandsLegally disk old k h → IsLegalUnder (terms_of old) k (told ask reply ∷ h)
  -- a disk fault is told only where the disk's count of faults rose, which is the count that is told
  pub cause : (count : ℕ) → reply ≡ replies.DiskFault count → (count ≡ disk.count (disk_of new)) × (disk.count (disk_of new) ≡ raised (disk.count (disk_of old)))
  pub no_cause : count_of reply ≡ None → disk.count (disk_of new) ≡ disk.count (disk_of old)
  -- a crash at any moment of the call leaves what may follow while this ask is in flight
  pub any_moment : disk.tells → (k h : List Entry) → StandsLegally disk old k h
      → LeavesOnly disk.moment disk.left_since (disk_of old) (disk_of new) (LeavesNext (terms_of old) k h (Some ask))
  -- what changes nothing leaves the disk alone
  pub idle : (k h : List Entry) → StandsLegally disk old k h → would_change (host_of old) (h ++ k) ask ≡ false → disk_of new ≡ disk_of old
  -- what is made makes four device calls, and what is not makes none, unless the disk failed
  pub made : (k h : List Entry) → StandsLegally disk old k h → would_change (host_of old) (h ++ k) ask ≡ true → is_failure reply ≡ false → Spends disk 4 (disk_of old) (disk_of new)
  pub not_made : is_failure reply ≡ true → count_of reply ≡ None → SpendsNone disk (disk_of old) (disk_of new)
  -- where fewer calls are left it is not made, and where four pass the disk does not fail
  pub fewer : (k h : List Entry) (left : ℕ) → StandsLegally disk old k h → would_change (host_of old) (h ++ k) ask ≡ true → left < 4
      → disk.burnt (disk_of old) left → is_failure reply ≡ true
  pub passes : (left : ℕ) → disk.passes (disk_of old) (left + 4) → count_of reply ≡ None
  -- what becomes of its journal
  pub journal : Grows disk old new ask reply
