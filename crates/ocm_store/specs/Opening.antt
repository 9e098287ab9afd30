-- What a disk's bytes open to, and why a disk is not opened.
use Rattle.std.specs.Prelude.{◌≡◌, ◌⊎◌, ℕ, List, [], Option, Some, None, Result, Ok, Err, unwrap_or}
use Rattle.std.specs.Result.{result_ok}
use Rattle.std.specs.Option.{option_map_or}
use Rattle.ocm_base.specs.Outside.{raised}
use Rattle.ocm_entry.specs.declared.entries.Entry.{Entry}
use Rattle.ocm_history_records.specs.declared.faults.ReplayFault.{ReplayFault}
use Rattle.ocm_history_records.specs.declared.faults.ReplayFault.TheVariants as replays
use Rattle.ocm_journal_image.specs.declared.readings.Image.{Image}
use Rattle.ocm_journal_image.specs.declared.readings.RawRecord.{RawRecord}
use Rattle.ocm_journal_image.specs.Blank.{IsBlank}
use Rattle.ocm_journal_image.specs.Layout.{IsImage, contents}
use Rattle.ocm_journal_image.specs.Reading.{image_of}
use Rattle.ocm_journal.specs.declared.faults.OpenFault.{OpenFault}
use Rattle.ocm_journal.specs.declared.faults.OpenFault.TheVariants as faults
use Rattle.ocm_journal.specs.Openings.{opening}
use Rattle.ocm_law_sessions.specs.Readings.{opened, refused_at}
use Rattle.ocm_store.specs.declared.load_faults.LoadFault.{LoadFault}
use Rattle.ocm_store.specs.declared.load_faults.LoadFault.TheVariants.{NotJournal, OtherHost, DiskFault, NoMemory}

-- the bytes are an image with this host as its label and areas of this size, whose records open to this list
abbrev pub IsImageIn : List ℕ → ℕ → List Entry → List ℕ → Type 0
IsImageIn host area k bytes = (form : ℕ) × (records : List (List ℕ)) × IsImage host area form records bytes × (opened host form records ≡ Some k)

-- ... and areas of some size
abbrev pub IsImageOf : List ℕ → List Entry → List ℕ → Type 0
IsImageOf host k bytes = (area : ℕ) × IsImageIn host area k bytes

-- A disk of these bytes opens to this list: it is blank and the list is empty, or it is an image of it. A new journal would have
-- areas of this size.
abbrev pub OpensTo : List ℕ → ℕ → List Entry → List ℕ → Type 0
OpensTo host area k bytes = (IsBlank host area bytes × (k ≡ [])) ⊎ IsImageOf host k bytes

-- A journal of a disk of these bytes has areas of this size: that of a new one where the disk is blank, and else that of its image.
abbrev pub IsOfArea : List ℕ → ℕ → ℕ → List ℕ → Type 0
IsOfArea host new area bytes = (IsBlank host new bytes × (area ≡ new)) ⊎ ((form : ℕ) × (records : List (List ℕ)) × IsImage host area form records bytes)

-- a disk of these bytes opens to all that one of the others opens to
abbrev pub OpensAlike : List ℕ → ℕ → List ℕ → List ℕ → Type 0
OpensAlike host area others bytes = (k : List Entry) → OpensTo host area k others → OpensTo host area k bytes

-- the same fault of a journal
abbrev pub as_load_fault : OpenFault → LoadFault
as_load_fault (faults.NotJournal place) = NotJournal place
as_load_fault (faults.OtherLabel label) = OtherHost label
as_load_fault (faults.DiskFault count) = DiskFault count
as_load_fault faults.NoMemory = NoMemory

-- the same fault of records
abbrev pub of_replay : ReplayFault → LoadFault
of_replay (replays.Refused place) = NotJournal place
of_replay replays.NoMemory = NoMemory

-- why records are not loaded: the first that is refused, or want of memory
abbrev pub IsRefused : Option ℕ → LoadFault → Type 0
IsRefused refused (NotJournal place) = refused ≡ Some place
IsRefused refused NoMemory = Unit {0}
IsRefused refused fault = ⊥

-- the form of the live area of an image
abbrev pub live_form : List ℕ → ℕ
live_form bytes = option_map_or (λ (image : Image). image.live.form) (result_ok (image_of bytes)) 2

-- the list to which records open, where none of them is refused, which tells the place of its gate
abbrev pub unless_refused : Option ℕ → Option (List Entry) → Result (List Entry) LoadFault
unless_refused (Some place) k = Err (NotJournal place)
unless_refused None k = Ok (unwrap_or k [])

-- what an area of this form opens to that has these records, or why it has none
abbrev pub replayed : List ℕ → ℕ → Result (List RawRecord) OpenFault → Result (List Entry) LoadFault
replayed host form (Err fault) = Err (as_load_fault fault)
replayed host form (Ok records) = unless_refused (refused_at host form records) (opened host form (contents records))

-- What a disk of these bytes is loaded as, or why it is not. A new journal would have areas of this size.
unfoldable pub loading : List ℕ → ℕ → List ℕ → Result (List Entry) LoadFault
loading host area bytes = replayed host (live_form bytes) (opening host area bytes)

-- a fault of the format is what the bytes say
abbrev pub IsSaidBy : Result (List Entry) LoadFault → LoadFault → Type 0
IsSaidBy says (DiskFault count) = Unit {0}
IsSaidBy says NoMemory = Unit {0}
IsSaidBy says fault = says ≡ Err fault

-- where the disk failed, the fault tells its count of faults, which rose
abbrev pub IsCounted : ℕ → ℕ → LoadFault → Type 0
IsCounted before now (DiskFault count) = (count ≡ now) × (now ≡ raised before)
IsCounted before now fault = Unit {0}

-- a fault that is none of the disk
abbrev pub IsNoDiskFault : LoadFault → Type 0
IsNoDiskFault (DiskFault count) = ⊥
IsNoDiskFault fault = Unit {0}
