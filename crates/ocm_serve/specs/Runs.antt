-- What is said of a program that ran a server by a plan: from its disk as it was opened to its status.
use Rattle.std.specs.Prelude.{◌≡◌, ◌+◌, ◌^◌, ℕ, List, [], length, true, is_some, Bool, Option, All, IfSome}
use Rattle.ocm_dav.specs.declared.configs.Config.{Config}
use Rattle.ocm_disk.specs.declared.disk.Disk.{Ghosts}
use Rattle.ocm_journal.specs.Openings.{new_area}
use Rattle.ocm_limits.specs.Limits.{served_disk_bytes}
use Rattle.ocm_serve_log.specs.Logs.{IsLogOf}
use Rattle.ocm_serve_options.specs.declared.plans.Plan.{Plan}
use Rattle.ocm_serve_store.specs.Runs.{HasServed, IsUnserved, RunsTo}
use Rattle.ocm_serve_store.specs.declared.followed.Origin.{Origin}
use Rattle.ocm_serve_system.specs.Openings.{IsOpenedWith}
use Rattle.ocm_serve_system.specs.Statuses.{fault_status}
use Rattle.ocm_serve_system.specs.declared.openings.OpenFault.{OpenFault}
use Rattle.ocm_server.specs.Objects.{EachShift, Past}
use Rattle.ocm_server.specs.Statuses.{status_of}
use Rattle.ocm_server.specs.Visits.{Work}
use Rattle.ocm_server.specs.declared.served.Served.{Served}
use Rattle.ocm_server_connections.specs.Sides.{Sides}
use Rattle.ocm_turn.specs.Passes.{Gate, Known}
use Rattle.ocm_turn.specs.declared.view.Call.{Call}

-- no worker began, since something that the plan names could not be opened, or there was no memory
abbrev pub CouldNotBegin : ℕ → Type 0
CouldNotBegin status = (fault : OpenFault) × (status ≡ fault_status fault)

-- ---- what came of serving a disk

-- each of these workers did its shift, and drew by the stream of its place under this key
abbrev pub EachWorked : {C Terms : Type 0} → (C → Sides) → List ℕ → List (Work C Terms) → List (Work C Terms) → Config → Gate → Known Terms → Past → List (List Call) → Type 0
EachWorked sides key old new config gate first past all = EachShift sides config key old new (λ w. w) gate first past all

-- what came of serving a disk by a plan, by these workers, which draw under this key
abbrev pub ServesTo : {D C : Type 0} (disk : Ghosts D) → (C → Sides) → Plan → List ℕ → D → List (Work C (Origin D disk)) → Served → Type 0
ServesTo disk sides plan key before workers came = RunsTo disk plan (new_area served_disk_bytes) (2 ^ 63) (EachWorked sides key) (λ w. w.end) before workers came

-- ... with a log: what its sink has taken of it at the end, how many lines it does not have, and whether there was no memory for one of them
pub record LogsTo {D C K : Type 0} (disk : Ghosts D) (sides : C → Sides) (taken : K → Option (List ℕ)) (faults : K → ℕ) (plan : Plan) (key : List ℕ) (before : D) (workers : List (Work C (Origin D disk))) (came : Served) : Type 0 where
  pub runs : ServesTo disk sides plan key before workers came
  pub sink : K
  pub left_out : ℕ
  pub out_of_memory : Bool
  -- it is the log of the calls of the run
  pub log : (calls own : ℕ) (has : HasServed came calls own) → (let s = (runs.ran calls own has).served in
      IsLogOf (taken sink) (faults sink) left_out out_of_memory plan.host s.first.base s.service.history)
  -- where no worker began it is empty
  pub unlogged : IsUnserved came → IfSome (taken sink) (λ bytes. bytes ≡ []) × (left_out ≡ 0)

-- ---- the program

-- the door of a worker tells its connections, its post its exchanges, and its clock what it gave
pub record DoesTell {C Terms : Type 0} (w : Work C Terms) : Type 0 where
  pub connections : is_some w.told ≡ true
  pub exchanges : is_some w.exchanges ≡ true
  pub moments : is_some w.clock ≡ true

-- A program opened the disk of a plan, which is said to hold these bytes, served that disk, and ended with this status. Workers are told as
-- contracts see them, each at its place.
pub record RunFrom {D C : Type 0} (disk : Ghosts D) (plan : Plan) (holds : List ℕ) (Comes : List ℕ → D → List (Work C (Origin D disk)) → Served → Type 0) (status : ℕ) : Type 0 where
  -- the disk when it was opened, before anything was read of it
  pub before : D
  pub opened : IsOpenedWith disk holds before
  -- the workers before they began, one more than the plan names, and the key of all drawn values
  pub workers : List (Work C (Origin D disk))
  pub counted : length workers ≡ plan.workers + 1
  pub tell : All DoesTell workers
  pub key : List ℕ
  -- what came of serving that disk by these workers, which the status tells
  pub came : Served
  pub runs : Comes key before workers came
  pub status_is : status ≡ status_of came

-- a program ran a server by a plan, over a disk that is said to hold these bytes when it is opened, and ended with this status
abbrev pub RanOver : {D C : Type 0} → Ghosts D → (C → Sides) → Plan → List ℕ → ℕ → Type 0
RanOver disk sides plan holds status = RunFrom disk plan holds (ServesTo disk sides plan) status

-- ... with a log
abbrev pub RanLogged : {D C K : Type 0} → Ghosts D → (C → Sides) → (K → Option (List ℕ)) → (K → ℕ) → Plan → List ℕ → ℕ → Type 0
RanLogged disk sides taken faults plan holds status = RunFrom disk plan holds (LogsTo disk sides taken faults plan) status
