-- What is written of a journal's image and a log of reads.
use Rattle.std.specs.Prelude.{◌≡◌, ℕ, ◌+◌, nat_lt, ◌||◌, List, [], ◌∷◌, ◌++◌, length, take, drop, codes, Option, Some, None, if◌then◌else◌, Result, Ok, Err}
use Rattle.std.specs.Fmt.{decimal}
use Rattle.std.specs.Int.{w64, from_be_bytes}
use Rattle.ocm_limits.specs.Limits.{most_audited_bytes}
use Rattle.ocm_logcheck.specs.Checks as logs
use Rattle.ocm_logcheck.specs.declared.faults.LogFault.{LogFault}
use Rattle.ocm_logcheck.specs.declared.faults.LogFault.TheVariants as faults
use Rattle.ocm_commands_files.specs.Audits.{not_journal}
use Rattle.ocm_commands_files.specs.Lines.{bad_line}
use Rattle.ocm_commands_files.specs.declared.ends.End.{End}
use Rattle.ocm_commands_files.specs.declared.ends.End.TheVariants as whole

-- how many bytes the image has, by the first eight bytes of an input
abbrev pub image_length : List ℕ → ℕ
image_length bytes = from_be_bytes w64 (take 8 bytes)

-- The image, which stands behind eight bytes of its length, and the log behind it. None where the image is not there whole,
-- or has too many bytes.
abbrev pub log_parts : List ℕ → Option (List ℕ × List ℕ)
log_parts bytes =
    if nat_lt (length bytes) (image_length bytes + 8) || nat_lt most_audited_bytes (image_length bytes)
    then None
    else Some (take (image_length bytes) (drop 8 bytes), drop (image_length bytes) (drop 8 bytes))

-- what is told of the parts of an input: what a check tells, or that there are none, as the bad line 0
abbrev pub TellsParts : Option (List ℕ × List ℕ) → Result ℕ LogFault → Type 0
TellsParts None told = told ≡ Err (faults.BadLine 0)
TellsParts (Some parts) told = logs.Checks parts.0 parts.1 told

-- the line that tells how many lines a log has, each of which is true
abbrev pub ok_line : ℕ → List ℕ
ok_line number = codes "ok " ++ decimal number ++ 10 ∷ []

-- the line that names the first false line of a log
abbrev pub false_line : ℕ → List ℕ
false_line number = codes "false at " ++ decimal number ++ 10 ∷ []

-- what is written of what a check tells
abbrev pub Tells : Result ℕ LogFault → End → List ℕ → Type 0
Tells (Ok number) end text = (end ≡ whole.Done) × (text ≡ ok_line number)
Tells (Err (faults.NotJournal place)) end text = (end ≡ whole.NotJournal) × (text ≡ not_journal place)
Tells (Err (faults.BadLine number)) end text = (end ≡ whole.Script) × (text ≡ bad_line number)
Tells (Err (faults.False number)) end text = (end ≡ whole.False) × (text ≡ false_line number)
Tells (Err faults.NoMemory) end text = ⊥

-- An input whose log is true gives the status 0 and the number of its lines. One without parts gives the status 2 and the bad
-- line 0; else the first of these refusals: the status 7 and the place where the image is no journal, the status 2 and the
-- first bad line, the status 17 and the first false line.
abbrev pub LogchecksTo : List ℕ → End → List ℕ → Type 0
LogchecksTo bytes end text = (told : Result ℕ LogFault) × TellsParts (log_parts bytes) told × Tells told end text
