-- What is written of a script: its transcript, what `logcheck` reads of one of its servers, or the summary of a drill.
use Rattle.std.specs.Prelude.{◌≡◌, ℕ, ◌⊎◌, List, [], false, IsTrue, Option, Some, None, Ok, Err}
use Rattle.std.specs.List.{list_any}
use Rattle.ocm_texts.specs.Hex.{AreBytes}
use Rattle.ocm_disk.specs.Shelf.{bytes_of, disk_of}
use Rattle.ocm_disk.specs.declared.shelf.ShelfPlace.{ShelfPlace}
use Rattle.ocm_drill.specs.Script.{made_script}
use Rattle.ocm_script.specs.Script.{script_of}
use Rattle.ocm_script.specs.declared.events.Event.{Event}
use Rattle.ocm_script.specs.declared.faults.ScriptFault.TheVariants as ends
use Rattle.ocm_script_run.specs.Drills.{Texts, summary_of}
use Rattle.ocm_script_run.specs.Servers.{World}
use Rattle.ocm_world.specs.Shelves.{AreShelved}
use Rattle.ocm_world.specs.Traces.{Traced}
use Rattle.ocm_script_run.specs.Traces.{log_input, names}
use Rattle.ocm_script_run.specs.Transcript.{Transcript}
use Rattle.ocm_commands_files.specs.Lines.{bad_line}
use Rattle.ocm_commands_files.specs.declared.ends.End.{End}
use Rattle.ocm_commands_files.specs.declared.ends.End.TheVariants as whole

-- the shelf, where it is told, has the disks of these servers
abbrev pub IfShelved : Option (List ShelfPlace) → World → Type 0
IfShelved (Some places) final = AreShelved final places
IfShelved None final = Unit {0}

-- A script gives the status 0 and its transcript, and puts the disks of its servers on the shelf. Bytes with a line that is
-- no event give the status 2 and the number of the first such line.
abbrev pub Replays : List ℕ → End → List ℕ → Option (List ShelfPlace) → Type 0
Replays bytes whole.Done text shelf = (events : List Event) × (final : World) × (script_of bytes ≡ Ok events) × Transcript [] 1 events text final × IfShelved shelf final
Replays bytes whole.Script text shelf = (number : ℕ) × (script_of bytes ≡ Err (ends.Line number)) × (text ≡ bad_line number)
Replays bytes _ text shelf = ⊥

-- the shelf, where it is told, has these places
abbrev pub IfTold : Option (List ShelfPlace) → List ShelfPlace → Type 0
IfTold (Some shelf) places = shelf ≡ places
IfTold None places = Unit {0}

-- A run of the events prints a transcript, leaves servers with these disks, which are put on the shelf, and logs the reads
-- at the host but those at which the transcript shows that memory ran out. The text is the image that the host's disk
-- reads, which is made of bytes, and this log.
abbrev pub TracesRun : List ℕ → List Event → List ℕ → Option (List ShelfPlace) → Type 0
TracesRun host events text shelf =
    (final : World) × (places : List ShelfPlace) × (transcript image log : List ℕ)
    × Traced [] 1 host events transcript log final × AreShelved final places × IfTold shelf places
    × AreBytes image × (bytes_of (disk_of host places) ≡ Some image) × (text ≡ log_input image log)

-- A script that names the host gives the status 0, and what a run of it leaves and logs there. Bytes with a line that is no
-- event give the status 2 and the number of the first such line, and a script that does not name the host the status 2
-- and the number 0.
abbrev pub TracesTo : List ℕ → List ℕ → End → List ℕ → Option (List ShelfPlace) → Type 0
TracesTo host bytes whole.Done text shelf = (events : List Event) × (script_of bytes ≡ Ok events) × IsTrue (list_any (names host) events) × TracesRun host events text shelf
TracesTo host bytes whole.Script text shelf =
    ((number : ℕ) × (script_of bytes ≡ Err (ends.Line number)) × (text ≡ bad_line number))
    ⊎ ((events : List Event) × (script_of bytes ≡ Ok events) × (list_any (names host) events ≡ false) × (text ≡ bad_line 0))
TracesTo host bytes _ text shelf = ⊥

-- A drill gives the status 0 and the summary of a run of the made script, and puts the disks of its servers on the shelf.
abbrev pub DrillsTo : ℕ → ℕ → End → List ℕ → Option (List ShelfPlace) → Type 0
DrillsTo number events end text shelf =
    (final : World) × (texts : List (List ℕ))
    × (end ≡ whole.Done) × Texts [] 1 (made_script number events) texts final × (text ≡ summary_of events texts final) × IfShelved shelf final
