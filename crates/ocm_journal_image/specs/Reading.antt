-- How the bytes of an image are read, from the left up to the first fault. A fault is told by its place.
use Rattle.std.specs.Prelude.{◌≡◌, ◌≤◌, ℕ, zero, suc, ◌+◌, ◌^◌, ◌&&◌, ◌||◌, ◌==◌, nat_lt, nat_eq, List, [], ◌∷◌, length, take, drop, slice_index, if◌then◌else◌, Option, Some, None, Result, Ok, Err}
use Rattle.std.specs.Int.{w32, w64, from_be_bytes}
use Rattle.ocm_journal_image.specs.declared.readings.RawRecord.{RawRecord}
use Rattle.ocm_journal_image.specs.declared.readings.Records.{Records}
use Rattle.ocm_journal_image.specs.declared.readings.Area.{Area}
use Rattle.ocm_journal_image.specs.declared.readings.Header.{Header}
use Rattle.ocm_journal_image.specs.declared.readings.Image.{Image}
use Rattle.ocm_journal_image.specs.declared.faults.ImageFault.{ImageFault}
use Rattle.ocm_journal_image.specs.declared.faults.ImageFault.TheVariants.{NotJournal, NoMemory}
use Rattle.ocm_journal_image.specs.Layout.{mark, live_start}

-- the place of the first byte that differs from the text that should stand here; a byte that isn't there doesn't differ
abbrev pub first_difference : ℕ → List ℕ → List ℕ → Option ℕ
first_difference place [] bytes = None
first_difference place (t ∷ text) [] = None
first_difference place (t ∷ text) (b ∷ bytes) = if b == t then first_difference (place + 1) text bytes else Some place

-- the area size in a header
abbrev pub area_in : List ℕ → ℕ
area_in bytes = from_be_bytes w64 (take 8 (drop (9 + slice_index bytes 8) bytes))

-- a header as it stands, without a test
abbrev pub header_in : List ℕ → Header
header_in bytes = record {
  label = take (slice_index bytes 8) (drop 9 bytes);
  area = area_in bytes;
  selector = slice_index bytes (17 + slice_index bytes 8);
}

-- the header behind a right first byte and mark
abbrev pub sizes_tested : ℕ → List ℕ → Result Header ℕ
sizes_tested len bytes =
    if nat_lt 8 len && (slice_index bytes 8 == 0) then Err 8
    else if nat_lt len 512 then Err len
    else if nat_lt (area_in bytes) 1792 || nat_lt (2 ^ 38) (area_in bytes) then Err (9 + slice_index bytes 8)
    else Ok (header_in bytes)

-- the header that follows where there is no difference
abbrev pub unless_differs : Option ℕ → Result Header ℕ → Result Header ℕ
unless_differs (Some place) header = Err place
unless_differs None header = header

-- the header of a file of so many bytes that begins with these
abbrev pub header_of : ℕ → List ℕ → Result Header ℕ
header_of len bytes = unless_differs (first_difference 0 (1 ∷ mark) bytes) (sizes_tested len bytes)

-- the length of the record behind a gate, where one stands there: four bytes that give 1 to 2,097,152, and as many bytes
abbrev pub record_length : List ℕ → Option ℕ
record_length (a ∷ b ∷ c ∷ d ∷ after) = (
    let n = from_be_bytes w32 (a ∷ b ∷ c ∷ d ∷ []) in
    if nat_eq n 0 || nat_lt 2097152 n || nat_lt (length after) n then None else Some n
    )
record_length _ = None

-- a record before those that were read
abbrev pub put_first : RawRecord → Result Records ℕ → Result Records ℕ
put_first r (Ok read) = Ok (record { items = r ∷ read.items; end = read.end })
put_first r (Err place) = Err place

-- the records of an area from this place on, and the place of the byte behind the last.
-- So many bytes are passed first: those of a record that was taken.
abbrev pub records_from : ℕ → ℕ → List ℕ → Result Records ℕ
records_from passed place [] = Err place
records_from (suc passed) place (b ∷ rest) = records_from passed (place + 1) rest
records_from zero place (gate ∷ rest) =
    if gate == 1
    then elim (record_length rest) [
      | None ↦ Err place
      | Some n ↦ put_first (record { place = place; bytes = take n (drop 4 rest) }) (records_from (4 + n) (place + 1) rest)
    ]
    else Ok (record { items = []; end = place })

-- records of a form
abbrev pub with_form : ℕ → Result Records ℕ → Result Area ℕ
with_form form (Ok read) = Ok (record { form = form; records = read.items; end = read.end })
with_form form (Err place) = Err place

-- the area that begins at this place, in a file of so many bytes
abbrev pub area_of : ℕ → ℕ → List ℕ → Result Area ℕ
area_of len start [] = Err len
area_of len start (form ∷ rest) = if form == 1 || form == 2 then with_form form (records_from 0 (start + 1) rest) else Err start

-- where the live area of a header begins
abbrev pub start_of : Header → ℕ
start_of header = live_start header.area header.selector

-- the bytes of the live area, as far as the file has them
abbrev pub live_bytes : Header → List ℕ → List ℕ
live_bytes header bytes = take header.area (drop (start_of header) bytes)

-- an area below its header
abbrev pub with_header : Header → Result Area ℕ → Result Image ℕ
with_header header (Ok live) = Ok (record { header = header; live = live })
with_header header (Err place) = Err place

-- the image whose header was read
abbrev pub image_below : Result Header ℕ → List ℕ → Result Image ℕ
image_below (Ok header) bytes = with_header header (area_of (length bytes) (start_of header) (live_bytes header bytes))
image_below (Err place) bytes = Err place

-- the image that bytes are, or the place of the first fault
abbrev pub image_of : List ℕ → Result Image ℕ
image_of bytes = image_below (header_of (length bytes) bytes) bytes

-- what a call answered is what reading gives, unless memory was wanting
abbrev pub Gives : {T : Type 0} → Result T ImageFault → Result T ℕ → Type 0
Gives (Ok value) read = read ≡ Ok value
Gives (Err (NotJournal place)) read = read ≡ Err place
Gives (Err NoMemory) read = Unit {0}

-- what a call that takes one record answered: the next record and then those behind it are what reading gives
abbrev pub TakesNext : ℕ → List ℕ → Result (Option RawRecord) ImageFault → Type 0
TakesNext place rest (Ok None) = (1 ≤ length rest) × (records_from 0 place rest ≡ Ok (record { items = []; end = place }))
TakesNext place rest (Ok (Some r)) = (5 + length r.bytes ≤ length rest) × (records_from 0 place rest ≡ put_first r (records_from 0 (place + (5 + length r.bytes)) (drop (5 + length r.bytes) rest)))
TakesNext place rest (Err (NotJournal fault)) = records_from 0 place rest ≡ Err fault
TakesNext place rest (Err NoMemory) = Unit {0}

-- the first record of an area from this place on, and then those behind it, are what reading gives; without one the area ends here
abbrev pub FirstIs : ℕ → List ℕ → Option (List ℕ) → Type 0
FirstIs place rest None = (1 ≤ length rest) × (records_from 0 place rest ≡ Ok (record { items = []; end = place }))
FirstIs place rest (Some r) = (5 + length r ≤ length rest) × (r ≡ take (length r) (drop 5 rest)) × (records_from 0 place rest ≡ put_first (record { place = place; bytes = r }) (records_from 0 (place + (5 + length r)) (drop (5 + length r) rest)))
