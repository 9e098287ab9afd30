-- Disks on which no journal was made yet, or whose making was cut short by a crash.
use Rattle.std.specs.Prelude.{ℕ, ◌^◌, ◌<◌, ◌==◌, nat_le, nat_eq, List, length, drop, slice_index, if◌then◌else◌, Option, Some, None, IsSome}
use Rattle.std.specs.Cmp.Lexicographic.{pointwise}
use Rattle.ocm_journal_image.specs.Layout.{fresh, IsLabel}
use Rattle.ocm_journal_image.specs.declared.blanks.Blank.{Blank}
use Rattle.ocm_journal_image.specs.declared.blanks.Blank.TheVariants.{Empty, Begun, Written}

-- how far the making of a journal had come, where the bytes are blank for this label and area size
abbrev pub blank_of : List ℕ → ℕ → List ℕ → Option Blank
blank_of label area bytes =
    if nat_le (length bytes) 1 then Some Empty
    else if slice_index bytes 0 == 0 then (if nat_le (length bytes) 514 then Some Begun else None)
    else if slice_index bytes 0 == 1 then None
    else if pointwise nat_eq (drop 1 bytes) (fresh label area 1) then Some (Written 1)
    else if pointwise nat_eq (drop 1 bytes) (fresh label area 2) then Some (Written 2)
    else None

-- the bytes are blank for this label and area size
abbrev pub IsBlank : List ℕ → ℕ → List ℕ → Type 0
IsBlank label area bytes = IsSome (blank_of label area bytes)

-- the form that a journal made of a blank disk has
abbrev pub made_form : Blank → ℕ
made_form (Written form) = form
made_form _ = 2

-- the bytes are blank for some label and area size
abbrev pub IsBlankForAny : List ℕ → Type 0
IsBlankForAny bytes = (label : List ℕ) × (area : ℕ) × IsLabel label × (area < 2 ^ 64) × IsBlank label area bytes
