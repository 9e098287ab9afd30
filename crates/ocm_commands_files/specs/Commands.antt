use Rattle.std.specs.Prelude.{◌≡◌, ℕ, ◌<◌, ◌≤◌, ◌⊎◌, List, [], ◌∷◌, ◌++◌, length, Option, codes, Result, Ok, Err}
use Rattle.ocm_base.specs.Outside.{Appends}
use Rattle.ocm_script.specs.Script.{script_of}
use Rattle.ocm_script.specs.declared.faults.ScriptFault.TheVariants as ends
use Rattle.ocm_commands_files.specs.declared.ends.End.{End}
use Rattle.ocm_commands_files.specs.declared.ends.End.TheVariants as whole
use Rattle.ocm_commands_files.specs.declared.ends.Fault.{Fault}
use Rattle.ocm_commands_files.specs.declared.ends.Fault.TheVariants as faults
use Rattle.ocm_commands_files.specs.declared.help.TheConstants.{DAV_HELP, HELP, SERVE_HELP, VERSION}
use Rattle.ocm_commands_files.specs.declared.words.Command.{Command}
use Rattle.ocm_commands_files.specs.declared.words.Command.TheVariants as commands
use Rattle.ocm_commands_files.specs.Audits.{AuditsTo}
use Rattle.ocm_commands_files.specs.Checks.{Checks}
use Rattle.ocm_commands_files.specs.Compacts.{CompactsTo}
use Rattle.ocm_commands_files.specs.Logchecks.{LogchecksTo}
use Rattle.ocm_commands_files.specs.Words.{most_bytes}

-- the line that tells the commands
abbrev pub usage_line : List ℕ
usage_line = codes "usage: ocmd replay|audit|check KIND|drill NUMBER EVENTS|serve OPTIONS|dav VERB HOST SECRET PATH" ++ 10 ∷ []

-- the command is plain: it runs no servers of a script
abbrev pub IsPlain : Command → Type 0
IsPlain commands.Replay = ⊥
IsPlain (commands.Trace host) = ⊥
IsPlain (commands.Drill number events) = ⊥
IsPlain _ = Unit {0}

-- on these bytes the plain command has this end, and writes this text
abbrev pub GivesPlain : Command → List ℕ → End → List ℕ → Type 0
GivesPlain commands.Audit bytes end text = AuditsTo bytes end text
GivesPlain commands.Logcheck bytes end text = LogchecksTo bytes end text
GivesPlain commands.Compact bytes end text = CompactsTo bytes end text
GivesPlain (commands.Check kind) bytes end text = Checks kind bytes end text
GivesPlain commands.Help bytes end text = (end ≡ whole.Done) × (text ≡ HELP.now)
GivesPlain commands.ServeHelp bytes end text = (end ≡ whole.Done) × (text ≡ SERVE_HELP.now)
GivesPlain commands.DavHelp bytes end text = (end ≡ whole.Done) × (text ≡ DAV_HELP.now)
GivesPlain commands.Version bytes end text = (end ≡ whole.Done) × (text ≡ VERSION.now)
GivesPlain _ bytes end text = ⊥

-- the bytes are more than the command takes, or a script has too many lines
abbrev pub IsLong : Command → List ℕ → Type 0
IsLong commands.Replay bytes = (most_bytes commands.Replay < length bytes) ⊎ (script_of bytes ≡ Err ends.TooMany)
IsLong (commands.Trace host) bytes = (most_bytes (commands.Trace host) < length bytes) ⊎ (script_of bytes ≡ Err ends.TooMany)
IsLong command bytes = most_bytes command < length bytes

-- the plain command took the bytes, had this end and added its text
abbrev pub WritesPlain : Command → List ℕ → End → Option (List ℕ) → Option (List ℕ) → Type 0
WritesPlain command bytes end old new = (length bytes ≤ most_bytes command) × (text : List ℕ) × Appends old new text × GivesPlain command bytes end text

-- nothing was added, or a front of the text of a whole run of the plain command
abbrev pub WritesPlainPart : Command → List ℕ → Option (List ℕ) → Option (List ℕ) → Type 0
WritesPlainPart command bytes old new =
    (new ≡ old)
    ⊎ ((length bytes ≤ most_bytes command) × (end : End) × (text : List ℕ) × (rest : List ℕ) × Appends old new text × GivesPlain command bytes end (text ++ rest))

-- the status of a run whose text is whole
abbrev pub end_status : End → ℕ
end_status whole.Done = 0
end_status whole.Script = 2
end_status whole.NotJournal = 7
end_status whole.Record = 8
end_status whole.False = 17
end_status whole.Differs = 18

-- the number is the status of a run whose text is whole
abbrev pub IsWhole : ℕ → Type 0
IsWhole n = (end : End) × (n ≡ end_status end)

-- the status of a run
abbrev pub status_of : Result End Fault → ℕ
status_of (Ok end) = end_status end
status_of (Err faults.ReadFault) = 3
status_of (Err faults.WriteFault) = 4
status_of (Err faults.NoMemory) = 5
status_of (Err faults.TooLong) = 9

-- the number is a status of the commands
abbrev pub IsStatus : ℕ → Type 0
IsStatus n = (n ≡ 1) ⊎ ((end : Result End Fault) × (n ≡ status_of end))
