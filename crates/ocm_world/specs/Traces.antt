-- What a trace writes: the image of one server's disk, and the log of the reads that it answered.
use Rattle.std.specs.Prelude.{◌≡◌, ◌≢◌, ◌⊎◌, ◌&&◌, ℕ, ◌+◌, List, [], ◌∷◌, ◌++◌, Option, Some, None, codes, MatchBool}
use Rattle.ocm_texts.specs.Hex.{AreBytes}
use Rattle.ocm_base.specs.Outside.{Appends}
use Rattle.ocm_disk.specs.Shelf.{bytes_of, disk_of}
use Rattle.ocm_disk.specs.declared.shelf.ShelfPlace.{ShelfPlace}
use Rattle.ocm_path.specs.Paths.{Segments}
use Rattle.ocm_entry.specs.declared.asks.Method.{Method}
use Rattle.ocm_rules.specs.Numbers.{same_text}
use Rattle.ocm_access_log.specs.Lines.{is_reading, log_line}
use Rattle.ocm_transcript.specs.Texts.{line_text}
use Rattle.ocm_script.specs.declared.events.Event.{Event}
use Rattle.ocm_script.specs.declared.events.Event.TheVariants.{Dav}
use Rattle.ocm_script_run.specs.Deliveries.{Run}
use Rattle.ocm_script_run.specs.Servers.{Server, World, server_at}
use Rattle.ocm_script_run.specs.Traces.{IsLogged, log_input}
use Rattle.ocm_world.specs.Shelves.{AreShelved}

-- the line of a transcript that tells that memory ran out
abbrev pub no_memory_line : ℕ → List ℕ
no_memory_line number = line_text number (codes "500 no memory")

-- A read has no line in the log where the transcript tells that memory ran out, or tells nothing, since no server has the
-- host yet. Where it tells anything else, the read has one line.
abbrev pub ShowsRead : ℕ → Method → List ℕ → Segments → Option Server → List ℕ → List ℕ → Type 0
ShowsRead number method secret path found text log =
    ((log ≡ []) × ((text ≡ no_memory_line number) ⊎ ((found ≡ None) × (text ≡ []))))
    ⊎ ((place moment status : ℕ) × (log ≡ log_line place moment method secret path status) × (text ≢ no_memory_line number) × (text ≢ []))

-- what the line of this number printed, and what was logged of it at this host: a line that is no read there has none
abbrev pub Shows : World → List ℕ → ℕ → Event → List ℕ → List ℕ → Type 0
Shows world host number (Dav at secret method path) text log =
    MatchBool (same_text at host && is_reading method) (ShowsRead number method secret path (server_at world host) text log) (log ≡ [])
Shows world host number e text log = log ≡ []

-- The lines, with these servers and from this line's number on, print this transcript, log this at the server of this host,
-- and leave these servers. A read there is missing from the log exactly where the transcript shows that memory ran out.
abbrev pub Traced : World → ℕ → List ℕ → List Event → List ℕ → List ℕ → World → Type 0
Traced world number host [] text log final = (text ≡ []) × (log ≡ []) × (final ≡ world)
Traced world number host (e ∷ events) text log final =
    (line : Run) × (first later rest : List ℕ)
    × IsLogged world number host e line first × Shows world host number e line.text first
    × (text ≡ line.text ++ later) × (log ≡ first ++ rest) × Traced line.world (number + 1) host events later rest final

-- the bytes added are the image of the host's disk, as the shelf has it, and the log of a run that leaves these servers
abbrev pub Traces : List Event → List ℕ → Option (List ℕ) → Option (List ℕ) → World → List ShelfPlace → Type 0
Traces events host old new final shelf =
    (text image log : List ℕ) × Traced [] 1 host events text log final
    × AreBytes image × (bytes_of (disk_of host shelf) ≡ Some image) × Appends old new (log_input image log)

-- the bytes added are a prefix of these, and the shelf has the disks of these servers
abbrev pub TracesPart : List Event → List ℕ → Option (List ℕ) → Option (List ℕ) → World → List ShelfPlace → Type 0
TracesPart events host old new final shelf =
    (written rest text image log : List ℕ) × Traced [] 1 host events text log final × AreShelved final shelf
    × AreBytes image × (bytes_of (disk_of host shelf) ≡ Some image) × (written ++ rest ≡ log_input image log) × Appends old new written
