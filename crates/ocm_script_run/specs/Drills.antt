-- What a drill writes: the summary of a made script's transcript.
use Rattle.std.specs.Prelude.{◌≡◌, ℕ, ◌+◌, List, [], ◌∷◌, ◌++◌, map, Option}
use Rattle.std.specs.Option.{option_map_or}
use Rattle.ocm_base.specs.Outside.{Appends}
use Rattle.ocm_rules.specs.Lean.{count}
use Rattle.ocm_script.specs.declared.events.Event.{Event}
use Rattle.ocm_drill.specs.Script.{drill_hosts, made_script}
use Rattle.ocm_drill.specs.Summary.{summary}
use Rattle.ocm_script_run.specs.Servers.{World, history, server_at}
use Rattle.ocm_script_run.specs.Deliveries.{Run}
use Rattle.ocm_script_run.specs.Transcript.{IsRun}

-- the lines, with these servers and from this line's number on, print these texts, one each, and leave these servers
abbrev pub Texts : World → ℕ → List Event → List (List ℕ) → World → Type 0
Texts world number [] texts final = (texts ≡ []) × (final ≡ world)
Texts world number (e ∷ events) texts final =
    (line : Run) × (rest : List (List ℕ)) × IsRun world number e line × (texts ≡ line.text ∷ rest) × Texts line.world (number + 1) events rest final

-- how many entries the server of this host keeps, ticks aside
abbrev pub kept_by : World → List ℕ → ℕ
kept_by world host = option_map_or (λ server. count server.host (history server)) (server_at world host) 0

-- the summary of a drill of so many events whose lines printed these texts and left these servers
abbrev pub summary_of : ℕ → List (List ℕ) → World → List ℕ
summary_of events texts final = summary (16 + events) texts (map (λ host. (host, kept_by final host)) drill_hosts)

-- the text added is the summary of a run of the made script, which leaves these servers
abbrev pub Drills : ℕ → ℕ → Option (List ℕ) → Option (List ℕ) → World → Type 0
Drills number events old new final =
    (texts : List (List ℕ)) × Texts [] 1 (made_script number events) texts final × Appends old new (summary_of events texts final)

-- the text added is a prefix of the summary of such a run
abbrev pub DrillsPart : ℕ → ℕ → Option (List ℕ) → Option (List ℕ) → Type 0
DrillsPart number events old new =
    (text rest : List ℕ) × (texts : List (List ℕ)) × (final : World)
    × Texts [] 1 (made_script number events) texts final × (text ++ rest ≡ summary_of events texts final) × Appends old new text
