-- What the program promises for the words behind its name.
use Rattle.std.specs.Prelude.{◌≡◌, ◌⊎◌, ℕ, ◌<◌, List, [], length, Option, None, true, false, IfSome}
use Rattle.ocm_base.specs.Outside.{Appends, AppendsPart, Rose}
use Rattle.ocm_disk.specs.declared.shelf.ShelfPlace.{ShelfPlace}
use Rattle.ocm_serve_options.specs.Plans.{asks_serve, orders_of}
use Rattle.ocm_serve_system.specs.Statuses as serves
use Rattle.ocm_commands_dav.specs.Answers.{IsTold}
use Rattle.ocm_commands_dav.specs.Exchanges.{AsksPut}
use Rattle.ocm_commands_dav.specs.Words.{IsOther}
use Rattle.ocm_commands_dav.specs.declared.ends.End as remotes
use Rattle.ocm_commands_dav.specs.declared.ends.End.TheVariants as asked
use Rattle.ocm_commands_files.specs.Commands.{IsLong, IsStatus, IsWhole, end_status, usage_line}
use Rattle.ocm_commands_files.specs.Words.{AreOf, AreOther, BeginTrace, input_of, reads}
use Rattle.ocm_commands_files.specs.declared.ends.End.{End}
use Rattle.ocm_commands_files.specs.declared.words.Command.{Command}
use Rattle.ocm_commands_network.specs.Remotes.{TellsAnswer, TellsPart}
use Rattle.ocm_commands_network.specs.Words.{asks_remote}
use Rattle.ocm_commands.specs.Commands.{Writes, WritesOnCome, WritesPart}

-- the first word asks for a server
abbrev pub AskServe : List (List ℕ) → Type 0
AskServe words = asks_serve words ≡ true

-- the first word asks for a request to a server
abbrev pub AskRemote : List (List ℕ) → Type 0
AskRemote words = (asks_serve words ≡ false) × (asks_remote words ≡ true)

-- the words ask for neither: they are a command's that runs alone, or no command's
abbrev pub AskAlone : List (List ℕ) → Type 0
AskAlone words = (asks_serve words ≡ false) × (asks_remote words ≡ false)

-- The status of `serve`, and what was written, with the sink's faults before and after: 1 or 4 only for words that order no
-- server, and then the line of the commands, or a part of it where that failed; else nothing, and the status of a server that
-- ran or could not begin.
abbrev pub ServeEnds : List (List ℕ) → ℕ → Option (List ℕ) → Option (List ℕ) → ℕ → ℕ → Type 0
ServeEnds words status old new faults_old faults_new =
    ((status ≡ 1) ⊎ (status ≡ 4) ⊎ serves.IsStatus status)
    × (orders_of words ≡ None → (status ≡ 1) ⊎ (status ≡ 4) ⊎ (status ≡ 5))
    × (status ≡ 1 → orders_of words ≡ None)
    × (status ≡ 4 → orders_of words ≡ None)
    × (status ≡ 1 → Appends old new usage_line)
    × (status ≡ 4 → AppendsPart old new usage_line)
    × ((status ≡ 1) ⊎ (status ≡ 4) ⊎ (new ≡ old))
    × (status ≡ 4 → Rose faults_old faults_new)

-- How `dav` ended, what the source had left before and has left, and what was written, with the sink's faults before and
-- after: Usage only for words that ask for no request, and then the line of the commands; ReadFault and TooLong only for words
-- that put a file, TooLong for one of more than 1048576 bytes; WriteFault where the sink failed, with a part written; an
-- answer to what the words ask for, told whole; else nothing.
abbrev pub RemoteEnds : List (List ℕ) → remotes.End → Option (List ℕ) → Option (List ℕ) → Option (List ℕ) → Option (List ℕ) → ℕ → ℕ → Type 0
RemoteEnds words end left rest old new faults_old faults_new =
    (end ≡ asked.Usage → IsOther words)
    × (end ≡ asked.Usage → Appends old new usage_line)
    × (IsOther words → (end ≡ asked.Usage) ⊎ (end ≡ asked.WriteFault) ⊎ (end ≡ asked.NoMemory))
    × (IsOther words → end ≡ asked.WriteFault → AppendsPart old new usage_line)
    × ((end ≡ asked.ReadFault) ⊎ (end ≡ asked.TooLong) → AsksPut words)
    × (end ≡ asked.TooLong → IfSome left (λ bytes. 1048576 < length bytes))
    × ((end ≡ asked.ReadFault) ⊎ (end ≡ asked.TooLong) ⊎ (end ≡ asked.NoMemory) → new ≡ old)
    × (IsTold end → TellsAnswer words left rest end old new)
    × (end ≡ asked.WriteFault → TellsPart words left rest old new)
    × (end ≡ asked.WriteFault → Rose faults_old faults_new)

-- The status of a command that runs alone, what the source had left before, and what was written: 1 only for words of no
-- command, and then the line of the commands, or a part of it where that failed; for a whole run what the command writes on
-- its input; else nothing, or a front of that.
abbrev pub AloneEnds : List (List ℕ) → ℕ → Option (List ℕ) → Option (List ℕ) → Option (List ℕ) → Type 0
AloneEnds words status left old new =
    IsStatus status
    × (status ≡ 1 → AreOther words)
    × (status ≡ 1 → Appends old new usage_line)
    × (AreOther words → (status ≡ 1) ⊎ (status ≡ 4) ⊎ ((status ≡ 5) × BeginTrace words))
    × (AreOther words → status ≡ 4 → AppendsPart old new usage_line)
    × (AreOther words → status ≡ 5 → new ≡ old)
    × ((shelf : List ShelfPlace) × ((c : Command) → AreOf c words → IsWhole status
    → IfSome (input_of c left) (λ bytes. (end : End) × (status ≡ end_status end) × Writes c bytes end old new shelf)))
    × ((c : Command) → AreOf c words → status ≡ 9 → IfSome (input_of c left) (IsLong c))
    × ((c : Command) → AreOf c words → (status ≡ 4) ⊎ (status ≡ 5) → IfSome (input_of c left) (λ bytes. WritesPart c bytes old new))
    × ((status ≡ 3) ⊎ (status ≡ 9) → new ≡ old)

-- The same of a source that tells what it gave: the bytes that came, and what the command writes on them.
abbrev pub AloneCame : List (List ℕ) → ℕ → Option (List ℕ) → Option (List ℕ) → Option (List ℕ) → Option (List ℕ) → Type 0
AloneCame words status before after old new =
    (shelf : List ShelfPlace) × ((c : Command) → AreOf c words → IsWhole status → WritesOnCome c status before after old new shelf)

-- What a command that runs alone leaves of the source: the whole where the words are no command's or the command's input is
-- none, and nothing after a whole run of one that reads.
abbrev pub AloneReads : {S : Type 0} → (S → Option (List ℕ)) → List (List ℕ) → ℕ → S → S → Type 0
AloneReads left words status old new =
    (AreOther words → new ≡ old)
    × ((c : Command) → AreOf c words → reads c ≡ false → new ≡ old)
    × ((c : Command) → AreOf c words → reads c ≡ true → IsWhole status → IfSome (left new) (λ rest. rest ≡ []))
