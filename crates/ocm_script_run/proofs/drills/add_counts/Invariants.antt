use Rattle.std.proofs.Common.{◌≡◌, ℕ, List, [], map, take}
use Rattle.ocm_drill.specs.Summary.{summary}
use Rattle.ocm_script_run.specs.Drills.{kept_by}
use Rattle.ocm_script_run.specs.Servers.{World}
use Rattle.ocm_script_run.proofs.drills.add_counts.Given as goal

-- the summary has the hosts so far
abbrev pub invariant-loop-host : goal.invariant-loop-host
invariant-loop-host g l = (world : World) (events : ℕ) (texts : List (List ℕ)) → g.S.ScriptServers.stand l.servers world → l.fn.summary ≡ summary events texts []
    → l.summary ≡ summary events texts (map (λ host. (host, kept_by world host)) (take l.host-index l.hosts))
