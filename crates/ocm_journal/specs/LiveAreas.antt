-- Which area of a journal is live, what is in it, and what one more record makes of it.
use Rattle.std.specs.Prelude.{◌≡◌, ◌⊎◌, ℕ, ◌+◌, nat_le, List, [], ◌∷◌, ◌++◌, length, Bool, true, false, not, ◌&&◌, Some}
use Rattle.ocm_disk.specs.declared.disk.Disk.{Ghosts}
use Rattle.ocm_journal_image.specs.declared.blanks.Blank.{Blank}
use Rattle.ocm_journal_image.specs.Blank.{blank_of, made_form}
use Rattle.ocm_journal_image.specs.Layout.{blocks_size}
use Rattle.ocm_journal.specs.declared.journal.Journal.{Journal}
use Rattle.ocm_journal.specs.Journals.{IsImageWith, StandsFor, first_is_live, form_of}

-- the live area of a journal: whether it is the first, its form, and its records, the oldest first
pub record LiveArea : Type 0 where
  pub first : Bool
  pub form : ℕ
  pub records : List (List ℕ)

-- whether one more record has room in a live area of so many bytes
abbrev pub has_room : ℕ → LiveArea → List ℕ → Bool
has_room area live r = nat_le (2 + blocks_size live.records + (5 + length r)) area

-- the live area once one more record is written: where it has room, it stands behind the others; else the other area is live,
-- in form 2, with all that is written anew
abbrev pub written_in : Bool → LiveArea → List ℕ → List (List ℕ) → LiveArea
written_in true live r anew = record { first = live.first; form = live.form; records = live.records ++ r ∷ [] }
written_in false live r anew = record { first = not live.first; form = 2; records = anew }

-- ... in areas of so many bytes
abbrev pub grown : ℕ → LiveArea → List ℕ → List (List ℕ) → LiveArea
grown area live r anew = written_in (has_room area live r) live r anew

-- whether the second area becomes live by it
abbrev pub goes_to_second : ℕ → LiveArea → List ℕ → Bool
goes_to_second area live r = not (has_room area live r) && live.first

-- bytes are an image with this live area
abbrev pub IsImageLive : List ℕ → ℕ → LiveArea → List ℕ → Type 0
IsImageLive label area live bytes = IsImageWith live.first label area live.form live.records bytes

-- a journal that is loaded from these bytes has this live area: they are an image with it, or they are blank, and it is the first one,
-- without records. A new journal would have areas of this size.
abbrev pub BeginsWith : List ℕ → ℕ → List ℕ → LiveArea → Type 0
BeginsWith label new bytes live =
    ((area : ℕ) × IsImageLive label area live bytes) ⊎ ((blank : Blank) × (blank_of label new bytes ≡ Some blank) × (live ≡ record { first = true; form = made_form blank; records = [] }))

-- a journal has this live area, all of it on the disk
pub record HasLive {D : Type 0} (disk : Ghosts D) (label : List ℕ) (live : LiveArea) (journal : Journal D disk) : Type 0 where
  pub first : first_is_live journal ≡ live.first
  pub form : form_of journal ≡ live.form
  pub holds : StandsFor disk label live.records journal
