-- The transcript of a script.
use Rattle.std.specs.Prelude.{◌≡◌, ℕ, ◌+◌, List, [], ◌∷◌, ◌++◌, Bool, true, Option, Some, None, option_map, codes}
use Rattle.std.specs.Fmt.{decimal}
use Rattle.std.specs.Option.{option_map_or}
use Rattle.ocm_base.specs.Outside.{Appends}
use Rattle.ocm_disk.specs.declared.crashes.Crash as disks
use Rattle.ocm_entry.specs.declared.asks.Ask.{Ask}
use Rattle.ocm_entry.specs.declared.asks.Ask.TheVariants.{Tick}
use Rattle.ocm_rules.specs.Lean.{count}
use Rattle.ocm_transcript.specs.Texts.{line_text, reply_lines}
use Rattle.ocm_script.specs.declared.events.Event.{Event}
use Rattle.ocm_script.specs.declared.events.Event.TheVariants.{Node, Clock, Raw, Deliver, Pump, Fuse, Crash}
use Rattle.ocm_script.specs.Events.{host_of}
use Rattle.ocm_script_run.specs.Asked.{ask_of, fault_of, fault_text, shows_digits}
use Rattle.ocm_script_run.specs.Servers.{Server, World, asked_at, history, new_server, reply_at, restart, server_at, step_at}
use Rattle.ocm_script_run.specs.Deliveries.{Run, deliver, next_wanting, pump}
use Rattle.ocm_script_run.specs.Talks.{IsTalk, config_of}

-- a new server
abbrev pub named : World → ℕ → List ℕ → Run
named world number host = record { world = world ++ new_server host ∷ []; text = line_text number (codes "node") }

-- an ask at the server of this host
abbrev pub asked : Bool → World → ℕ → Bool → List ℕ → Ask → Run
asked wanting world number digits host ask = record {
  world = asked_at wanting world host ask;
  text = option_map_or (λ reply. reply_lines number digits reply) (reply_at wanting world host ask) [];
}

-- the server of this host is told the time
abbrev pub clocked : Bool → World → ℕ → List ℕ → ℕ → Run
clocked wanting world number host clock = asked wanting (step_at (λ server. record server { clock = clock }) world host) number true host (Tick clock)

-- so many device calls pass of the disk of this host's server
abbrev pub fused : World → ℕ → List ℕ → ℕ → Run
fused world number host calls = record { world = step_at (λ server. record server { fuse = Some calls }) world host; text = line_text number (codes "fuse") }

-- the line of how many entries a server keeps that was loaded again
abbrev pub opened_line : ℕ → ℕ → List ℕ
opened_line number kept = line_text number (codes "opened " ++ decimal kept)

-- how many entries the server of this host keeps after a crash, the ticks aside
abbrev pub kept_at : disks.Crash → World → List ℕ → Option ℕ
kept_at left world host = option_map (λ server. count server.host (history (restart left server))) (server_at world host)

-- the disk of this host's server crashes, and it is loaded again
abbrev pub restarted : disks.Crash → World → ℕ → List ℕ → Run
restarted left world number host = record {
  world = step_at (restart left) world host;
  text = option_map_or (opened_line number) (kept_at left world host) [];
}

-- what a line prints that asks nothing: what is wrong with its record, or nothing
abbrev pub faulty_text : ℕ → Event → List ℕ
faulty_text number e = option_map_or (λ fault. line_text number (fault_text fault)) (fault_of e) []

-- a line that asks something of its server, or whose record is faulty, or that is quiet
abbrev pub plain : Bool → World → ℕ → Event → Option (List ℕ) → Option Ask → Run
plain wanting world number e (Some host) (Some ask) = asked wanting world number (shows_digits e) host ask
plain wanting world number e _ _ = record { world = world; text = faulty_text number e }

-- what a line does and prints that is no `raw`; the list tells at which of its asks memory was wanting
abbrev pub run : List Bool → World → ℕ → Event → Run
run wanting world number (Node host) = named world number host
run wanting world number (Clock host clock) = clocked (next_wanting wanting) world number host clock
run wanting world number (Deliver host m fresh lost) = deliver wanting world number host m fresh lost
run wanting world number (Pump host fresh) = pump wanting world number host fresh
run wanting world number (Fuse host calls) = fused world number host calls
run wanting world number (Crash host left) = restarted left world number host
run wanting world number e = plain (next_wanting wanting) world number e (host_of e) (ask_of e)

-- what a connection to a server does and prints: it is a talk of the server
abbrev pub Talked : World → ℕ → List ℕ → List ℕ → List ℕ → Option Server → Run → Type 0
Talked world number host fresh bytes None line = line ≡ record { world = world; text = [] }
Talked world number host fresh bytes (Some server) line =
    (after : Server) × (text : List ℕ) × IsTalk (config_of server.host) number fresh 0 0 bytes server after text
    × (line ≡ record { world = step_at (λ _. after) world host; text = text })

-- What a line does and prints. Memory may be wanting at each of its asks; all else is fixed.
abbrev pub IsRun : World → ℕ → Event → Run → Type 0
IsRun world number (Raw host fresh bytes) line = Talked world number host fresh bytes (server_at world host) line
IsRun world number e line = (wanting : List Bool) × (line ≡ run wanting world number e)

-- the lines, with these servers and from this line's number on, print this text and leave these servers
abbrev pub Transcript : World → ℕ → List Event → List ℕ → World → Type 0
Transcript world number [] text final = (text ≡ []) × (final ≡ world)
Transcript world number (e ∷ events) text final =
    (line : Run) × (rest : List ℕ) × IsRun world number e line × (text ≡ line.text ++ rest) × Transcript line.world (number + 1) events rest final

-- the text added is a transcript of the script, which leaves these servers
abbrev pub Writes : List Event → Option (List ℕ) → Option (List ℕ) → World → Type 0
Writes events old new final = (text : List ℕ) × Appends old new text × Transcript [] 1 events text final

-- the text added is a front of a transcript of the script
abbrev pub WritesPart : List Event → Option (List ℕ) → Option (List ℕ) → Type 0
WritesPart events old new = (text : List ℕ) × (rest : List ℕ) × (final : World) × Appends old new text × Transcript [] 1 events (text ++ rest) final
