-- The file of a journal, byte by byte: a header of 512 bytes and two areas of the same size.
use Rattle.std.specs.Prelude.{◌≡◌, ◌≢◌, ◌≤◌, ◌⊎◌, ◌==◌, ◌^◌, ℕ, ◌+◌, ◌-◌, List, [], ◌∷◌, ◌++◌, length, take, drop, replicate, map, if◌then◌else◌}
use Rattle.std.specs.Int.{w32, w64, to_be_bytes}
use Rattle.ocm_journal_image.specs.declared.readings.RawRecord.{RawRecord}

-- `OCMJ002` in ASCII
abbrev pub mark : List ℕ
mark = 79 ∷ 67 ∷ 77 ∷ 74 ∷ 48 ∷ 48 ∷ 50 ∷ []

-- what stands in a header from its place 1 up to the selector: the mark, the label behind its length, and eight bytes of the area size
abbrev pub named : List ℕ → ℕ → List ℕ
named label area = mark ++ length label ∷ label ++ to_be_bytes w64 area

-- a record in an area: the gate byte 01, four bytes of length, and its bytes
abbrev pub block : List ℕ → List ℕ
block record_bytes = 1 ∷ to_be_bytes w32 (length record_bytes) ++ record_bytes

-- what is written of a record behind its gate: four bytes of length, its bytes, and the closed gate behind them
abbrev pub record_text : List ℕ → List ℕ
record_text record_bytes = to_be_bytes w32 (length record_bytes) ++ record_bytes ++ 0 ∷ []

-- records in an area, the oldest first
abbrev pub blocks : List (List ℕ) → List ℕ
blocks [] = []
blocks (r ∷ rs) = block r ++ blocks rs

-- how many bytes such records take
abbrev pub blocks_size : List (List ℕ) → ℕ
blocks_size [] = 0
blocks_size (r ∷ rs) = 5 + length r + blocks_size rs

-- what an area begins with: the form byte, the records, and one byte in place of a further gate
abbrev pub area_text : ℕ → List (List ℕ) → ℕ → List ℕ
area_text form records gate = form ∷ blocks records ++ gate ∷ []

-- where the live area begins
abbrev pub live_start : ℕ → ℕ → ℕ
live_start area selector = if selector == 1 then 512 else 512 + area

-- a label has 1 to 255 bytes
abbrev pub IsLabel : List ℕ → Type 0
IsLabel label = (1 ≤ length label) × (length label ≤ 255)

-- an area has 1,792 to 2^38 bytes
abbrev pub IsAreaSize : ℕ → Type 0
IsAreaSize area = (1792 ≤ area) × (area ≤ 2 ^ 38)

-- the forms of an area
abbrev pub IsForm : ℕ → Type 0
IsForm form = (form ≡ 1) ⊎ (form ≡ 2)

-- a record has 1 to 2,097,152 bytes
abbrev pub AreRecords : List (List ℕ) → Type 0
AreRecords [] = Unit {0}
AreRecords (r ∷ rs) = (1 ≤ length r) × (length r ≤ 2097152) × AreRecords rs

-- these bytes hold a text at a place
abbrev pub HoldsAt : List ℕ → ℕ → List ℕ → Type 0
HoldsAt bytes place text = take (length text) (drop place bytes) ≡ text

-- the bytes are an image of these records with this label; what the fields don't name is passed over
pub record IsImage (label : List ℕ) (area form : ℕ) (records : List (List ℕ)) (bytes : List ℕ) : Type 0 where
  pub selector : ℕ
  pub gate : ℕ
  pub label_size : IsLabel label
  pub area_size : IsAreaSize area
  pub form_known : IsForm form
  pub record_sizes : AreRecords records
  pub header : 512 ≤ length bytes
  pub front : HoldsAt bytes 0 (1 ∷ named label area ++ selector ∷ [])
  pub live : HoldsAt bytes (live_start area selector) (area_text form records gate)
  -- the byte behind the last record is no open gate, and stands within the area
  pub shut : gate ≢ 1
  pub within : 2 + blocks_size records ≤ area

-- records with the places of their gates, the first of which stands here
abbrev pub placed : ℕ → List (List ℕ) → List RawRecord
placed place [] = []
placed place (r ∷ rs) = record { place = place; bytes = r } ∷ placed (place + (5 + length r)) rs

-- the bytes of records without their places
abbrev pub contents : List RawRecord → List (List ℕ)
contents records = map (λ r. r.bytes) records

-- the fresh bytes, from place 1 of a new journal on: its header with the selector 01, zeros where bytes are passed over, and an empty area
abbrev pub fresh : List ℕ → ℕ → ℕ → List ℕ
fresh label area form = named label area ++ 1 ∷ replicate (494 - length label) 0 ++ form ∷ 0 ∷ []
