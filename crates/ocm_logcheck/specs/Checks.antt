-- What a check tells of an image and a log: the order of its refusals.
use Rattle.std.specs.Prelude.{◌≡◌, ℕ, ◌⊎◌, List, [], length, if◌then◌else◌, Option, Some, None, unwrap_or, Result, Ok, Err}
use Rattle.std.specs.Option.{option_or}
use Rattle.ocm_entry.specs.declared.entries.Entry.{Entry}
use Rattle.ocm_journal_image.specs.Blank.{IsBlankForAny}
use Rattle.ocm_journal_image.specs.Layout.{contents}
use Rattle.ocm_journal_image.specs.Reading.{image_of}
use Rattle.ocm_journal_image.specs.declared.faults.ImageFault.{ImageFault}
use Rattle.ocm_journal_image.specs.declared.faults.ImageFault.TheVariants as image_faults
use Rattle.ocm_journal_image.specs.declared.readings.Image.{Image}
use Rattle.ocm_journal_audit.specs.Audits.{is_own_host}
use Rattle.ocm_journal_records.specs.Stamps as stamps
use Rattle.ocm_law_sessions.specs.Readings.{opened, refused_at}
use Rattle.ocm_access_log.specs.declared.lines.LogLine.{LogLine}
use Rattle.ocm_logcheck.specs.declared.faults.LogFault.{LogFault}
use Rattle.ocm_logcheck.specs.declared.faults.LogFault.TheVariants.{NotJournal, BadLine, False, NoMemory}
use Rattle.ocm_access_log.specs.Lines.{log_of}
use Rattle.ocm_access_log.specs.Truth.{first_false}

-- a host, and the list of its kept entries
abbrev pub Opened : Type 0
Opened = List ℕ × List Entry

-- The place of the gate of the first record that is refused: first as an audit refuses, by the records' forms and moments
-- alone, and then where an ask would change nothing.
abbrev pub refused_in : Image → Option ℕ
refused_in image = (
    let form = image.live.form in
    let records = image.live.records in
    option_or (stamps.refused_from form 0 records) (refused_at image.header.label form records)
    )

-- the list, where no record is refused, or the place of the first that is
abbrev pub unless_refused : Option ℕ → Opened → Result Opened ℕ
unless_refused None found = Ok found
unless_refused (Some place) found = Err place

-- what an image opens to
abbrev pub opened_in : Image → Opened
opened_in image = (image.header.label, unwrap_or (opened image.header.label image.live.form (contents image.live.records)) [])

-- what is opened of an image, or the place of what is refused first: its framing, its label, its records
abbrev pub opening_of : Result Image ℕ → Result Opened ℕ
opening_of (Err place) = Err place
opening_of (Ok image) =
    if is_own_host image.header.label then unless_refused (refused_in image) (opened_in image) else Err 9

-- What bytes open to, or the place where they are no journal. A blank file opens to the empty list, on which each read is
-- answered alike at all hosts.
abbrev pub Opens : List ℕ → Result Opened ℕ → Type 0
Opens bytes opening =
    (IsBlankForAny bytes × (opening ≡ Ok ([], [])))
    ⊎ ((IsBlankForAny bytes → ⊥) × (opening ≡ opening_of (image_of bytes)))

-- what is told of a fault of an image
abbrev pub fault_of : ImageFault → LogFault
fault_of (image_faults.NotJournal place) = NotJournal place
fault_of image_faults.NoMemory = NoMemory

-- the number of lines, where none is false, or the first that is
abbrev pub unless_false : Option ℕ → ℕ → Result ℕ LogFault
unless_false None number = Ok number
unless_false (Some number) _ = Err (False number)

-- The order of refusals: the image's, then the first bad line's, and then the first false line's.
abbrev pub told_of : Result Opened ℕ → Result (List LogLine) ℕ → Result ℕ LogFault
told_of (Err place) log = Err (NotJournal place)
told_of (Ok found) (Err number) = Err (BadLine number)
told_of (Ok found) (Ok lines) = unless_false (first_false found.0 found.1 1 lines) (length lines)

-- a check of this image and this log tells this
abbrev pub Checks : List ℕ → List ℕ → Result ℕ LogFault → Type 0
Checks image log told = (opening : Result Opened ℕ) × Opens image opening × (told ≡ told_of opening (log_of log))
