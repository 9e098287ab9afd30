-- What a journal stands for.
use Rattle.std.specs.Prelude.{replicate, ◌≡◌, ◌<◌, ◌≤◌, ◌⊎◌, ◌==◌, ℕ, ◌+◌, List, [], ◌∷◌, ◌++◌, length, slice_index, if◌then◌else◌, Bool, true}
use Rattle.ocm_disk.specs.Disk.{Only}
use Rattle.ocm_disk.specs.declared.disk.Disk.{Ghosts}
use Rattle.ocm_journal_image.specs.Layout.{HoldsAt, IsImage, blocks_size, area_text, live_start}
use Rattle.ocm_journal.specs.declared.journal.Journal.{Journal}

-- whether the first area is live by the selector byte
abbrev pub selects_first : List ℕ → List ℕ → Bool
selects_first label bytes = slice_index bytes (17 + length label) == 1

-- an image of the records, with the first area live or the second
abbrev pub IsImageWith : Bool → List ℕ → ℕ → ℕ → List (List ℕ) → List ℕ → Type 0
IsImageWith first label area form records bytes = IsImage label area form records bytes × (selects_first label bytes ≡ first)

-- an image of the records, with one more or without it
abbrev pub IsBeforeOrAfter : List ℕ → ℕ → ℕ → List (List ℕ) → List ℕ → List ℕ → Type 0
IsBeforeOrAfter label area form records r bytes = IsImage label area form records bytes ⊎ IsImage label area form (records ++ r ∷ []) bytes

-- what a renewal writes: zeros up to the other area, where the disk is shorter, and the records in form 2
abbrev pub renewed_text : ℕ → List (List ℕ) → List ℕ
renewed_text zeros records = replicate zeros 0 ++ area_text 2 records 0

-- an image of the old records or, in form 2, of the new ones
abbrev pub IsOldOrNew : List ℕ → ℕ → ℕ → List (List ℕ) → List (List ℕ) → List ℕ → Type 0
IsOldOrNew label area form records others bytes = IsImage label area form records bytes ⊎ IsImage label area 2 others bytes

-- where the area that is not live begins, and the selector byte that makes it live
abbrev pub IsOther : ℕ → ℕ → ℕ → ℕ → Type 0
IsOther area start other byte = ((start ≡ 512) × (other ≡ 512 + area) × (byte ≡ 2)) ⊎ ((start ≡ 512 + area) × (other ≡ 512) × (byte ≡ 1))

-- the disk of a journal
abbrev pub disk_of : {D : Type 0} {disk : Ghosts D} → Journal D disk → D
disk_of journal = journal.disk

-- how many bytes each of its areas has
abbrev pub area_of : {D : Type 0} {disk : Ghosts D} → Journal D disk → ℕ
area_of journal = journal.area

-- the form of its live area
abbrev pub form_of : {D : Type 0} {disk : Ghosts D} → Journal D disk → ℕ
form_of journal = journal.form

-- whether its first area is the live one, so that a renewal goes to the second
abbrev pub first_is_live : {D : Type 0} {disk : Ghosts D} → Journal D disk → Bool
first_is_live journal = journal.start == 512

-- whether a disk call of an earlier append or renewal has failed
abbrev pub IsStopped : {D : Type 0} {disk : Ghosts D} → Journal D disk → Type 0
IsStopped journal = journal.stopped ≡ true

-- the byte in place of a further gate is 00
abbrev pub IsShut : {D : Type 0} (disk : Ghosts D) → Journal D disk → Type 0
IsShut disk journal = HoldsAt (disk.seen journal.disk) journal.gate (0 ∷ [])

-- the selector byte is 01 where the first area is live, and else 02
abbrev pub IsSelected : {D : Type 0} (disk : Ghosts D) → Journal D disk → Type 0
IsSelected disk journal = HoldsAt (disk.seen journal.disk) journal.selector ((if first_is_live journal then 1 else 2) ∷ [])

-- a record of so many bytes passes the end of the live area
abbrev pub IsFullFor : {D : Type 0} {disk : Ghosts D} → Journal D disk → ℕ → Type 0
IsFullFor journal n = journal.start + journal.area < journal.gate + n + 6

-- there is room for a record of so many bytes
abbrev pub HasRoom : {D : Type 0} (disk : Ghosts D) → Journal D disk → ℕ → Type 0
HasRoom disk journal n = journal.gate + n + 6 ≤ disk.size journal.disk + disk.spare journal.disk

-- the area size and the form of the live area are the same
abbrev pub SameShape : {D : Type 0} {disk : Ghosts D} → Journal D disk → Journal D disk → Type 0
SameShape old new = (new.area ≡ old.area) × (new.form ≡ old.form) × (new.start ≡ old.start) × (new.selector ≡ old.selector)

-- the journal stands for these records with this label: its disk is an image of them, and all of it is on the disk
pub record StandsFor {D : Type 0} (disk : Ghosts D) (label : List ℕ) (records : List (List ℕ)) (journal : Journal D disk) : Type 0 where
  pub image : IsImage label journal.area journal.form records (disk.seen journal.disk)
  pub selector : journal.selector ≡ 17 + length label
  pub start : live_start journal.area image.selector ≡ journal.start
  pub gate : journal.gate ≡ journal.start + 1 + blocks_size records
  pub durable : Only (disk.seen journal.disk) (disk.may_leave journal.disk)
