-- What is promised of a log and an image that are traced of one run.
use Rattle.std.specs.Prelude.{◌≡◌, ℕ, List, length, Option, None, Result, Ok}
use Rattle.ocm_base.specs.Outside.{Appends}
use Rattle.ocm_disk.specs.declared.shelf.ShelfPlace.{ShelfPlace}
use Rattle.ocm_entry.specs.declared.entries.Entry.{Entry}
use Rattle.ocm_access_log.specs.declared.lines.LogLine.{LogLine}
use Rattle.ocm_access_log.specs.Lines.{log_of}
use Rattle.ocm_access_log.specs.Reads.{AreLogged}
use Rattle.ocm_access_log.specs.Truth.{first_false}
use Rattle.ocm_logcheck.specs.declared.faults.LogFault.{LogFault}
use Rattle.ocm_logcheck.specs.Checks.{Checks, Opens}
use Rattle.ocm_commands.specs.Commands.{Writes}
use Rattle.ocm_commands_files.specs.Commands.{IsLong}
use Rattle.ocm_commands_files.specs.Logchecks.{ok_line}
use Rattle.ocm_commands_files.specs.declared.ends.End.{End}
use Rattle.ocm_commands_files.specs.declared.ends.End.TheVariants as ends
use Rattle.ocm_commands_files.specs.declared.words.Command.TheVariants as commands

-- An image opens to kept entries of this host, of which each line of a log is true; the places and moments of the lines don't
-- fall; and whatever a check of the two tells is the number of lines.
pub record IsTrueLog (host image log : List ℕ) : Type 0 where
  pub kept : List Entry
  pub lines : List LogLine
  pub opens : Opens image (Ok (host, kept))
  pub reads : log_of log ≡ Ok lines
  pub order : AreLogged lines
  pub none_false : first_false host kept 1 lines ≡ None
  pub checks : Checks image log (Ok (length lines))
  pub told : (told : Result ℕ LogFault) → Checks image log told → told ≡ Ok (length lines)

-- The command `logcheck` takes these bytes. What it writes of them, where it is done, is the line that tells how many lines
-- the log has, each of which is true, and its status is 0. It may write that of them.
pub record IsFoundTrue (text : List ℕ) : Type 0 where
  pub lines : ℕ
  pub taken : IsLong commands.Logcheck text → ⊥
  pub told : (end : End) (old new : Option (List ℕ)) (shelf : List ShelfPlace) → Writes commands.Logcheck text end old new shelf → (end ≡ ends.Done) × Appends old new (ok_line lines)
  pub may : (old new : Option (List ℕ)) (shelf : List ShelfPlace) → Appends old new (ok_line lines) → Writes commands.Logcheck text ends.Done old new shelf
