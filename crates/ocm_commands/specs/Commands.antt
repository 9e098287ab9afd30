use Rattle.std.specs.Prelude.{◌≡◌, ℕ, ◌≤◌, ◌⊎◌, List, [], ◌++◌, length, Option, Some, None, Result, Ok, Err}
use Rattle.ocm_base.specs.Outside.{Appends}
use Rattle.ocm_disk.specs.declared.shelf.ShelfPlace.{ShelfPlace}
use Rattle.ocm_drill.specs.Script.{made_script}
use Rattle.ocm_script.specs.Script.{script_of}
use Rattle.ocm_script.specs.declared.events.Event.{Event}
use Rattle.ocm_world.specs.Shelves.{PrefixShelved}
use Rattle.ocm_commands_files.specs.declared.ends.End.{End}
use Rattle.ocm_commands_files.specs.declared.ends.End.TheVariants as ends
use Rattle.ocm_commands_files.specs.declared.ends.Fault.{Fault}
use Rattle.ocm_commands_files.specs.declared.ends.Fault.TheVariants as faults
use Rattle.ocm_commands_files.specs.declared.words.Command.{Command}
use Rattle.ocm_commands_files.specs.declared.words.Command.TheVariants as commands
use Rattle.ocm_commands_files.specs.Commands.{GivesPlain, end_status}
use Rattle.ocm_commands_files.specs.Words.{HasCome, most_bytes}
use Rattle.ocm_commands.specs.Scripts.{DrillsTo, Replays, TracesTo}

-- on these bytes the command has this end, writes this text, and leaves this shelf, where that is told
abbrev pub Gives : Command → List ℕ → End → List ℕ → Option (List ShelfPlace) → Type 0
Gives commands.Replay bytes end text shelf = Replays bytes end text shelf
Gives (commands.Trace host) bytes end text shelf = TracesTo host bytes end text shelf
Gives (commands.Drill number events) bytes end text shelf = DrillsTo number events end text shelf
Gives command bytes end text shelf = GivesPlain command bytes end text

-- the command took the bytes, had this end, added its text and left this shelf
abbrev pub Writes : Command → List ℕ → End → Option (List ℕ) → Option (List ℕ) → List ShelfPlace → Type 0
Writes command bytes end old new shelf = (length bytes ≤ most_bytes command) × (text : List ℕ) × Appends old new text × Gives command bytes end text (Some shelf)

-- bytes came as the command's input, and what the command writes on them was added, with the status of its end
abbrev pub WritesOnCome : Command → ℕ → Option (List ℕ) → Option (List ℕ) → Option (List ℕ) → Option (List ℕ) → List ShelfPlace → Type 0
WritesOnCome command status before after old new shelf =
    (bytes : List ℕ) × HasCome command before after bytes × (end : End) × (status ≡ end_status end) × Writes command bytes end old new shelf

-- nothing was added, or a front of the text of a whole run
abbrev pub WritesPart : Command → List ℕ → Option (List ℕ) → Option (List ℕ) → Type 0
WritesPart command bytes old new =
    (new ≡ old)
    ⊎ ((length bytes ≤ most_bytes command) × (end : End) × (text : List ℕ) × (rest : List ℕ) × Appends old new text × Gives command bytes end (text ++ rest) None)

-- on these bytes the command runs these events
abbrev pub RunsEvents : Command → List ℕ → List Event → Type 0
RunsEvents commands.Replay bytes events = script_of bytes ≡ Ok events
RunsEvents (commands.Trace host) bytes events = script_of bytes ≡ Ok events
RunsEvents (commands.Drill number count) bytes events = events ≡ made_script number count
RunsEvents _ bytes events = ⊥

-- The shelf of a command that ended early: it is empty, or the command runs events, and the shelf has the disks of the first
-- servers that a run of some prefix of them leaves.
abbrev pub LeavesPart : Command → List ℕ → List ShelfPlace → Type 0
LeavesPart command bytes places = (places ≡ []) ⊎ ((events : List Event) × RunsEvents command bytes events × PrefixShelved events places)

-- a run with this end may put disks on the shelf: it was done, or ended early since the sink failed or memory ran out
abbrev pub MayShelve : Result End Fault → Type 0
MayShelve (Ok ends.Done) = Unit {0}
MayShelve (Err faults.WriteFault) = Unit {0}
MayShelve (Err faults.NoMemory) = Unit {0}
MayShelve _ = ⊥
