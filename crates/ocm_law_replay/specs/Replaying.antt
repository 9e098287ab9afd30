-- What a replay that ended well has written and left.
use Rattle.std.specs.Prelude.{◌≡◌, ℕ, List, Some, Ok}
use Rattle.ocm_disk.specs.declared.shelf.ShelfPlace.{ShelfPlace}
use Rattle.ocm_commands_files.specs.declared.ends.End.TheVariants.{Done}
use Rattle.ocm_commands.specs.Scripts.{Replays}
use Rattle.ocm_script.specs.Script.{script_of}
use Rattle.ocm_script.specs.declared.events.Event.{Event}
use Rattle.ocm_script_run.specs.Servers.{Server}
use Rattle.ocm_world.specs.Shelves.{AreShelved}
use Rattle.ocm_law_runs.specs.Promises.{Promised}

-- The bytes are a script, which keeps what is promised of it with this text and the servers that it leaves; and the shelf has
-- the disk of each of these, whose bytes open to what may follow its session.
abbrev pub ReplaysWell : List ℕ → List ℕ → List ShelfPlace → Type 0
ReplaysWell bytes text shelf =
    (events : List Event) × (final : List Server) × (script_of bytes ≡ Ok events) × Promised events text final × AreShelved final shelf

-- so it is of what `replay` gives with the status 0
abbrev pub ReplaysKeep : Type 0
ReplaysKeep = (bytes text : List ℕ) (shelf : List ShelfPlace) → Replays bytes Done text (Some shelf) → ReplaysWell bytes text shelf
