-- Which records an area's bytes hold.
use Rattle.std.specs.Prelude.{◌≡◌, ◌⊎◌, ℕ, List, [], ◌∷◌, ◌++◌, drop, Result, Ok, Err, IsOk}
use Rattle.ocm_journal_image.specs.Layout.{contents}
use Rattle.ocm_journal_image.specs.Reading.{records_from}
use Rattle.ocm_journal_image.specs.declared.readings.RawRecord.{RawRecord}
use Rattle.ocm_journal_image.specs.declared.readings.Records.{Records}

-- the records that were read
abbrev pub items_of : Result Records ℕ → List RawRecord
items_of (Ok read) = read.items
items_of (Err place) = []

-- the place behind the last of them
abbrev pub end_of : Result Records ℕ → Result ℕ ℕ
end_of (Ok read) = Ok read.end
end_of (Err place) = Err place

-- these bytes, the first of which stands at this place, are records and a gate that is not open, or there are none
abbrev pub AreRead : ℕ → List ℕ → Type 0
AreRead place bytes = (bytes ≡ []) ⊎ IsOk (records_from 0 place bytes)

-- the records behind the form byte of these bytes, to which the gate behind the last one is wanting
abbrev pub records_in : List ℕ → List (List ℕ)
records_in text = contents (items_of (records_from 0 0 (drop 1 text ++ 0 ∷ [])))
