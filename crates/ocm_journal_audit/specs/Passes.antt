-- What the two passes over an image's records give: the first finds what is refused, the second tells them.
use Rattle.std.specs.Prelude.{◌≡◌, ℕ, List, [], ◌++◌, Option, Result, Ok, Err}
use Rattle.ocm_base.specs.Outside.{Appends}
use Rattle.ocm_journal_image.specs.declared.readings.Records.{Records}
use Rattle.ocm_journal_audit.specs.Audits.{end_line, lines_of}
use Rattle.ocm_journal_records.specs.Stamps.{refused_from}

-- the place of the first record that is refused at this moment so far, where the records are framed
abbrev pub refused_in : ℕ → ℕ → Result Records ℕ → Result (Option ℕ) ℕ
refused_in form moment (Ok read) = Ok (refused_from form moment read.items)
refused_in form moment (Err place) = Err place

-- the lines of framed records and the line of their end
abbrev pub told_lines : ℕ → Result Records ℕ → List ℕ
told_lines form (Ok read) = lines_of form read.items ++ end_line read.end
told_lines form (Err place) = []

-- a front of this text was added
abbrev pub AppendsFront : Option (List ℕ) → Option (List ℕ) → List ℕ → Type 0
AppendsFront old new text = (front : List ℕ) × (rest : List ℕ) × Appends old new front × (text ≡ front ++ rest)
