-- The log of the reads that one server of a script answered, and what stands before it.
use Rattle.std.specs.Prelude.{◌≡◌, ℕ, ◌+◌, List, [], ◌++◌, ◌∷◌, length, Bool, false, ◌&&◌, if◌then◌else◌}
use Rattle.std.specs.Option.{option_map_or}
use Rattle.std.specs.Int.{w64, to_be_bytes}
use Rattle.ocm_path.specs.Paths.{Segments}
use Rattle.ocm_entry.specs.declared.asks.Ask.TheVariants as asks
use Rattle.ocm_entry.specs.declared.asks.Method.{Method}
use Rattle.ocm_entry.specs.declared.replies.Reply.{Reply}
use Rattle.ocm_rules.specs.History.{kept}
use Rattle.ocm_rules.specs.Lean.{count}
use Rattle.ocm_rules.specs.Numbers.{same_text}
use Rattle.ocm_rules.specs.Shares.{moment}
use Rattle.ocm_access_log.specs.Lines.{is_reading, log_line}
use Rattle.ocm_access_log.specs.Truth.{status_of}
use Rattle.ocm_script.specs.declared.events.Event.{Event}
use Rattle.ocm_script.specs.declared.events.Event.TheVariants.{Dav, Raw}
use Rattle.ocm_script.specs.Events.{node_of}
use Rattle.ocm_script_run.specs.Servers.{Server, World, history, reply_of, server_at}
use Rattle.ocm_script_run.specs.Deliveries.{Run, next_wanting}
use Rattle.ocm_script_run.specs.Transcript.{IsRun, run}

-- whether a line makes the server of this host
abbrev pub names : List ℕ → Event → Bool
names host e = option_map_or (λ node. same_text node host) (node_of e) false

-- What a server logs of a read that it replied to: how many entries it keeps, ticks aside, its moment, the read, and the
-- reply's status. A reply that memory ran out has no line.
abbrev pub logged : Server → Method → List ℕ → Segments → Reply → List ℕ
logged server method secret path reply = (
    let g = kept server.host (history server) in
    option_map_or (λ status. log_line (count server.host (history server)) (moment g) method secret path status) (status_of reply) []
    )

-- what this read logs at the server of this host
abbrev pub logged_at : Bool → World → List ℕ → Method → List ℕ → Segments → List ℕ
logged_at wanting world host method secret path =
    option_map_or (λ server. logged server method secret path (reply_of wanting server (asks.Dav secret method path []))) (server_at world host) []

-- what a script's line logs at the server of this host, where memory runs out at its ask or not: nothing if it is no read there
abbrev pub logged_by : Bool → World → List ℕ → Event → List ℕ
logged_by wanting world host (Dav at secret method path) =
    if same_text at host && is_reading method then logged_at wanting world host method secret path else []
logged_by wanting world host e = []

-- a line is run, and this is logged of it at the server of this host
abbrev pub IsLogged : World → ℕ → List ℕ → Event → Run → List ℕ → Type 0
IsLogged world number host (Raw at fresh bytes) line log = IsRun world number (Raw at fresh bytes) line × (log ≡ [])
IsLogged world number host e line log = (wanting : List Bool) × (line ≡ run wanting world number e) × (log ≡ logged_by (next_wanting wanting) world host e)

-- the lines, with these servers and from this line's number on, log this at the server of this host, and leave these servers
abbrev pub Logged : World → ℕ → List ℕ → List Event → List ℕ → World → Type 0
Logged world number host [] log final = (log ≡ []) × (final ≡ world)
Logged world number host (e ∷ events) log final =
    (line : Run) × (first rest : List ℕ)
    × IsLogged world number host e line first × (log ≡ first ++ rest) × Logged line.world (number + 1) host events rest final

-- an image behind eight bytes of its length, and a log: what `logcheck` reads
abbrev pub log_input : List ℕ → List ℕ → List ℕ
log_input image log = to_be_bytes w64 (length image) ++ image ++ log
