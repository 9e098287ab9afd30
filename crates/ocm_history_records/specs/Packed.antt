-- How what is kept of many entries lies in blocks of bytes, and how it is read there.
use Rattle.std.specs.Prelude.{ℕ, ◌+◌, List, [], ◌∷◌, ◌++◌, take, drop}
use Rattle.std.specs.Int.{w64, from_be_bytes}
use Rattle.ocm_history_records.specs.declared.kept.KeptRecord.{KeptRecord}
use Rattle.ocm_history_records.specs.declared.kept.KeptRecord.TheVariants as kinds
use Rattle.ocm_history_records.specs.declared.blocks.Mark.{Mark}
use Rattle.ocm_history_records.specs.declared.blocks.Mark.TheVariants as marks
use Rattle.ocm_history_records.specs.declared.views.Kind.{Kind}
use Rattle.ocm_history_records.specs.declared.views.Kind.TheVariants as views

-- the record of this kind that has these bytes if it is of no tick
abbrev pub seen : Kind → List ℕ → KeptRecord
seen (views.Tick clock) bytes = kinds.Tick clock
seen views.Put bytes = kinds.Put bytes
seen views.Other bytes = kinds.Other bytes

-- how many bytes the record of a mark has
abbrev pub mark_size : Mark → ℕ
mark_size marks.Tick = 8
mark_size (marks.Put size) = size
mark_size (marks.Other size) = size

-- how many bytes the records of these have together
abbrev pub marks_size : List Mark → ℕ
marks_size [] = 0
marks_size (m ∷ ms) = mark_size m + marks_size ms

-- the record of a mark whose bytes stand at the front of these
abbrev pub record_at : Mark → List ℕ → KeptRecord
record_at marks.Tick text = kinds.Tick (from_be_bytes w64 (take 8 text))
record_at (marks.Put size) text = kinds.Put (take size text)
record_at (marks.Other size) text = kinds.Other (take size text)

-- the records of these marks, whose bytes stand one behind another
abbrev pub unpacked : List Mark → List ℕ → List KeptRecord
unpacked [] text = []
unpacked (m ∷ ms) text = record_at m text ∷ unpacked ms (drop (mark_size m) text)

-- the records of blocks, one block behind another
abbrev pub all_of : List (List KeptRecord) → List KeptRecord
all_of [] = []
all_of (b ∷ bs) = b ++ all_of bs
