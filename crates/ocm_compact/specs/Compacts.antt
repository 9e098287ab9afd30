-- What is made of the bytes of a journal.
use Rattle.std.specs.Prelude.{◌≡◌, ◌⊎◌, ℕ, List, Option, Some, None, if◌then◌else◌, Result, Ok, Err}
use Rattle.std.specs.Option.{option_or}
use Rattle.ocm_entry.specs.declared.entries.Entry.{Entry}
use Rattle.ocm_journal_image.specs.Blank.{IsBlankForAny}
use Rattle.ocm_journal_image.specs.Layout.{IsImage, contents}
use Rattle.ocm_journal_image.specs.Reading.{image_of}
use Rattle.ocm_journal_image.specs.declared.faults.ImageFault.{ImageFault}
use Rattle.ocm_journal_image.specs.declared.faults.ImageFault.TheVariants as image_faults
use Rattle.ocm_journal_image.specs.declared.readings.Header.{Header}
use Rattle.ocm_journal_image.specs.declared.readings.Image.{Image}
use Rattle.ocm_journal_image.specs.declared.readings.Records.{Records}
use Rattle.ocm_journal_audit.specs.Audits.{is_own_host}
use Rattle.ocm_journal_records.specs.Stamps as stamps
use Rattle.ocm_law_alike.specs.Alike.{AnswersAlike}
use Rattle.ocm_law_sessions.specs.Readings.{opened, refused_at}
use Rattle.ocm_compact.specs.declared.faults.CompactFault.{CompactFault}
use Rattle.ocm_compact.specs.declared.faults.CompactFault.TheVariants.{NotJournal, Differs, NoMemory}

-- the place of what is refused first of an image: as an audit refuses, its label and then its records, by their forms and
-- moments alone, and then the first record whose ask would change nothing
abbrev pub refused_of : Image → Option ℕ
refused_of image =
    if is_own_host image.header.label
    then option_or (stamps.refused_from image.live.form 0 image.live.records) (refused_at image.header.label image.live.form image.live.records)
    else Some 9

-- the place at which bytes are no journal that a server would load
abbrev pub IsRefusedAt : List ℕ → ℕ → Type 0
IsRefusedAt bytes place =
    (IsBlankForAny bytes → ⊥) × ((image_of bytes ≡ Err place) ⊎ ((image : Image) × (image_of bytes ≡ Ok image) × (refused_of image ≡ Some place)))

-- bytes are a journal that a server would load: an image that is refused nowhere
abbrev pub IsTaken : List ℕ → Type 0
IsTaken bytes = (IsBlankForAny bytes → ⊥) × ((image : Image) × (image_of bytes ≡ Ok image) × (refused_of image ≡ None))

-- These bytes are an image of a host with this area size, and open in form 2 to a list after which each ask is answered as
-- after this one, now and after any further entries.
pub record IsLeastAfter (host : List ℕ) (area : ℕ) (k : List Entry) (bytes : List ℕ) : Type 0 where
  pub records : List (List ℕ)
  pub is_image : IsImage host area 2 records bytes
  pub least : List Entry
  pub opens : opened host 2 records ≡ Some least
  pub alike : AnswersAlike host k least

-- an image is refused nowhere, and these bytes are the least form of the list to which it opens
pub record IsLeastOf (image : Image) (bytes : List ℕ) : Type 0 where
  pub taken : refused_of image ≡ None
  pub list : List Entry
  pub opens : opened image.header.label image.live.form (contents image.live.records) ≡ Some list
  pub least : IsLeastAfter image.header.label image.header.area list bytes

-- the image with this header and these records of a form
abbrev pub image_with : Header → ℕ → Records → Image
image_with header form read = record { header = header; live = record { form = form; records = read.items; end = read.end } }

-- what is made where an area of this form below a header has these records, or is refused at this place
abbrev pub IsMadeBelow : Header → ℕ → Result Records ℕ → List ℕ → Type 0
IsMadeBelow header form area made = (read : Records) × (area ≡ Ok read) × IsLeastOf (image_with header form read) made

abbrev pub IsRefusedBelow : Header → ℕ → Result Records ℕ → ℕ → Type 0
IsRefusedBelow header form area place = (area ≡ Err place) ⊎ ((read : Records) × (area ≡ Ok read) × (refused_of (image_with header form read) ≡ Some place))

-- an area of this form below a header has such records that the image is refused nowhere
abbrev pub IsTakenBelow : Header → ℕ → Result Records ℕ → Type 0
IsTakenBelow header form area = (read : Records) × (area ≡ Ok read) × (refused_of (image_with header form read) ≡ None)

-- records of form 2 open to a list after which each ask is answered as after this one
pub record ComesToAlike (host : List ℕ) (k : List Entry) (records : List (List ℕ)) : Type 0 where
  pub least : List Entry
  pub opens : opened host 2 records ≡ Some least
  pub alike : AnswersAlike host k least

-- what is made of bytes: a blank file is written as it is
abbrev pub IsMadeOf : List ℕ → List ℕ → Type 0
IsMadeOf bytes made =
    (IsBlankForAny bytes × (made ≡ bytes)) ⊎ ((IsBlankForAny bytes → ⊥) × ((image : Image) × (image_of bytes ≡ Ok image) × IsLeastOf image made))

-- what is told of a fault of an image
abbrev pub fault_of : ImageFault → CompactFault
fault_of (image_faults.NotJournal place) = NotJournal place
fault_of image_faults.NoMemory = NoMemory

-- what a call answered to bytes
abbrev pub Compacts : List ℕ → Result (List ℕ) CompactFault → Type 0
Compacts bytes (Ok made) = IsMadeOf bytes made
Compacts bytes (Err (NotJournal place)) = IsRefusedAt bytes place
Compacts bytes (Err Differs) = IsTaken bytes
Compacts bytes (Err NoMemory) = Unit {0}
