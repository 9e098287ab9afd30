-- What a disk opens to.
use Rattle.std.specs.Prelude.{◌≡◌, ◌⊎◌, ◌≤◌, ◌<◌, ℕ, ◌+◌, ◌-◌, ◌/◌, nat_eq, List, [], length, if◌then◌else◌, Option, Some, None, Result, Ok, Err}
use Rattle.std.specs.Cmp.Lexicographic.{pointwise}
use Rattle.ocm_base.specs.Outside.{raised}
use Rattle.ocm_journal_image.specs.declared.blanks.Blank.{Blank}
use Rattle.ocm_journal_image.specs.declared.blanks.Blank.TheVariants.{Empty, Begun, Written}
use Rattle.ocm_journal_image.specs.declared.readings.RawRecord.{RawRecord}
use Rattle.ocm_journal_image.specs.declared.readings.Area.{Area}
use Rattle.ocm_journal_image.specs.declared.readings.Header.{Header}
use Rattle.ocm_journal_image.specs.Blank.{blank_of, made_form, IsBlank}
use Rattle.ocm_journal_image.specs.Layout.{IsImage, IsAreaSize, live_start, blocks_size, contents}
use Rattle.ocm_journal_image.specs.Reading.{header_of, area_of, start_of, live_bytes}
use Rattle.ocm_journal.specs.declared.faults.OpenFault.{OpenFault}
use Rattle.ocm_journal.specs.declared.faults.OpenFault.TheVariants.{NotJournal, OtherLabel, DiskFault, NoMemory}
use Rattle.ocm_journal.specs.declared.reading.Opened.{Opened}
use Rattle.ocm_journal_image.specs.declared.faults.ImageFault.{ImageFault}
use Rattle.ocm_journal_image.specs.declared.faults.ImageFault.TheVariants as image_faults

-- the disk opens to these records: it is blank and there are none, or it is an image of them
abbrev pub Opens : List ℕ → ℕ → List (List ℕ) → List ℕ → Type 0
Opens label area records bytes = (IsBlank label area bytes × (records ≡ [])) ⊎ ((size : ℕ) × (form : ℕ) × IsImage label size form records bytes)

-- the records of a live area
abbrev pub records_in : Result Area ℕ → Result (List RawRecord) OpenFault
records_in (Ok live) = Ok live.records
records_in (Err place) = Err (NotJournal place)

-- the records below a header, whose label is tested first
abbrev pub records_below : List ℕ → List ℕ → Result Header ℕ → Result (List RawRecord) OpenFault
records_below label bytes (Err place) = Err (NotJournal place)
records_below label bytes (Ok header) =
    if pointwise nat_eq header.label label then records_in (area_of (length bytes) (start_of header) (live_bytes header bytes))
    else Err (OtherLabel header.label)

-- no records where the disk is blank
abbrev pub unless_blank : Option Blank → Result (List RawRecord) OpenFault → Result (List RawRecord) OpenFault
unless_blank (Some blank) records = Ok []
unless_blank None records = records

-- what a disk of these bytes opens to for this label, or why it does not. A new journal would have areas of this size.
abbrev pub opening : List ℕ → ℕ → List ℕ → Result (List RawRecord) OpenFault
opening label area bytes = unless_blank (blank_of label area bytes) (records_below label bytes (header_of (length bytes) bytes))

-- the same fault of an image
abbrev pub as_open_fault : ImageFault → OpenFault
as_open_fault (image_faults.NotJournal place) = NotJournal place
as_open_fault image_faults.NoMemory = NoMemory

-- a fault of reading alone
abbrev pub IsReadFault : ℕ → ℕ → OpenFault → Type 0
IsReadFault before now (DiskFault count) = (count ≡ now) × (now ≡ raised before)
IsReadFault before now NoMemory = Unit {0}
IsReadFault before now fault = ⊥

-- no fault of the disk: what the bytes say, or want of memory
abbrev pub IsSaid : Result (List RawRecord) OpenFault → OpenFault → Type 0
IsSaid says (DiskFault count) = ⊥
IsSaid says NoMemory = Unit {0}
IsSaid says fault = says ≡ Err fault

-- the places of an image that was read in a file of so many bytes
pub record IsPlaced (len : ℕ) (opened : Opened) : Type 0 where
  pub selector_low : 18 ≤ opened.selector
  pub selector_high : opened.selector ≤ 272
  pub area_size : IsAreaSize opened.area
  pub start_low : 512 ≤ opened.start
  pub start_high : opened.start ≤ 512 + opened.area
  pub gate_low : opened.start < opened.gate
  pub gate_high : opened.gate < opened.start + opened.area
  pub inside : opened.gate < len

-- what was read is what the bytes are an image of
abbrev pub ImageOpens : List ℕ → List ℕ → Opened → Type 0
ImageOpens label bytes opened = (image : IsImage label opened.area opened.form (contents opened.records) bytes) × (opened.selector ≡ 17 + length label) × (live_start opened.area image.selector ≡ opened.start) × (opened.gate ≡ opened.start + 1 + blocks_size (contents opened.records))

-- where the disk failed, the fault tells its count of faults, which rose
abbrev pub IsCounted : ℕ → ℕ → OpenFault → Type 0
IsCounted before now (DiskFault count) = (count ≡ now) × (now ≡ raised before)
IsCounted before now fault = Unit {0}

-- a fault of the format is what the bytes say
abbrev pub IsSaidBy : Result (List RawRecord) OpenFault → OpenFault → Type 0
IsSaidBy says (DiskFault count) = Unit {0}
IsSaidBy says NoMemory = Unit {0}
IsSaidBy says fault = says ≡ Err fault

-- how many bytes a blank disk has
abbrev pub BlankSize : Blank → ℕ → Type 0
BlankSize Empty size = size ≤ 1
BlankSize Begun size = (1 ≤ size) × (size ≤ 514)
BlankSize (Written form) size = size ≡ 514

-- what a crash leaves of a disk while it is opened, from its first sync on: the same bytes, or, where it was blank, what opens to no records
abbrev pub StaysAsItOpens : List ℕ → ℕ → List ℕ → List ℕ → Type 0
StaysAsItOpens label area seen bytes = (bytes ≡ seen) ⊎ (IsBlank label area seen × Opens label area [] bytes)

-- the size of the areas of a new journal
abbrev pub new_area : ℕ → ℕ
new_area limit = (limit - 512) / 2

-- where a disk of these bytes was blank, the form and the area size of the journal that was made of it
abbrev pub IsMadeAs : List ℕ → ℕ → List ℕ → ℕ → ℕ → Type 0
IsMadeAs label area seen form size = (blank : Blank) → blank_of label area seen ≡ Some blank → (form ≡ made_form blank) × (size ≡ area)
