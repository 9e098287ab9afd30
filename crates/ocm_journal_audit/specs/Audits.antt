-- What an audit tells of the bytes of a journal's file.
use Rattle.std.specs.Prelude.{◌≡◌, ℕ, ◌⊎◌, Bool, ◌&&◌, List, [], ◌∷◌, ◌++◌, length, codes, if◌then◌else◌, Option, Some, None, is_some, Result, Ok, Err}
use Rattle.std.specs.Fmt.{decimal}
use Rattle.std.specs.Str.{is_utf8}
use Rattle.ocm_base.specs.Outside.{Appends}
use Rattle.ocm_journal_image.specs.Blank.{IsBlankForAny}
use Rattle.ocm_journal_image.specs.Reading.{image_of}
use Rattle.ocm_journal_image.specs.declared.readings.Image.{Image}
use Rattle.ocm_journal_image.specs.declared.readings.RawRecord.{RawRecord}
use Rattle.ocm_types.specs.Hosts.{canonical_host_of}
use Rattle.ocm_journal_records.specs.Stamps.{kind_of, refused_from, stamped_of}
use Rattle.ocm_journal_records.specs.declared.stamps.Stamped.{Stamped}

-- whether a label is a host's own text
abbrev pub is_own_host : List ℕ → Bool
is_own_host label = is_utf8 label && is_some (canonical_host_of label)

-- the kind of what a record says, where it says something
unfoldable pub kind_in : Option Stamped → List ℕ
kind_in (Some said) = kind_of said
kind_in None = []

-- the line of a record: the place of its gate, its kind, and how many bytes it has
abbrev pub line_of : ℕ → ℕ → List ℕ → List ℕ
line_of form place bytes = decimal place ++ 32 ∷ kind_in (stamped_of form bytes) ++ 32 ∷ decimal (length bytes) ++ 10 ∷ []

-- the lines of records of a form
abbrev pub lines_of : ℕ → List RawRecord → List ℕ
lines_of form [] = []
lines_of form (r ∷ rs) = line_of form r.place r.bytes ++ lines_of form rs

-- the line that names the host of a journal
abbrev pub host_line : List ℕ → List ℕ
host_line label = codes "host " ++ label ++ 10 ∷ []

-- the line that names the place of the last gate
abbrev pub end_line : ℕ → List ℕ
end_line place = codes "end " ++ decimal place ++ 10 ∷ []

-- the line that tells a file on which no journal was made yet
abbrev pub blank_line : List ℕ
blank_line = codes "blank" ++ 10 ∷ []

-- the text of an image
abbrev pub text_of : Image → List ℕ
text_of image = host_line image.header.label ++ (lines_of image.live.form image.live.records ++ end_line image.live.end)

-- the text, where no record is refused, or the place of the first that is
abbrev pub unless_refused : Option ℕ → List ℕ → Result (List ℕ) ℕ
unless_refused None text = Ok text
unless_refused (Some place) text = Err place

-- what is told of an image: its text, or the place of what is refused first, the label at its place 9 and then the records
abbrev pub told_of : Result Image ℕ → Result (List ℕ) ℕ
told_of (Err place) = Err place
told_of (Ok image) =
    if is_own_host image.header.label
    then unless_refused (refused_from image.live.form 0 image.live.records) (text_of image)
    else Err 9

-- what an audit tells of bytes: a text, or the place where they are no journal
abbrev pub Audits : List ℕ → Result (List ℕ) ℕ → Type 0
Audits bytes told =
    (IsBlankForAny bytes × (told ≡ Ok blank_line))
    ⊎ ((IsBlankForAny bytes → ⊥) × (told ≡ told_of (image_of bytes)))

-- nothing, or a front of the text of the whole, was added
abbrev pub WritesFront : List ℕ → Option (List ℕ) → Option (List ℕ) → Type 0
WritesFront bytes old new =
    (new ≡ old) ⊎ ((front : List ℕ) × (rest : List ℕ) × Appends old new front × Audits bytes (Ok (front ++ rest)))
