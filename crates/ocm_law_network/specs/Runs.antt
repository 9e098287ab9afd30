-- What is told of a server that ran, from its disk to its disk.
use Rattle.std.specs.Prelude.{◌≡◌, ◌⊎◌, ◌<◌, ℕ, List, [], length, slice_index_or, None}
use Rattle.ocm_server_connections.specs.Sides.{Sides}
use Rattle.ocm_disk.specs.Disk.{LeavesOnly}
use Rattle.ocm_disk.specs.declared.disk.Disk.{Ghosts}
use Rattle.ocm_entry.specs.declared.entries.Entry.{Entry}
use Rattle.ocm_journal.specs.Openings.{StaysAsItOpens}
use Rattle.ocm_serve_options.specs.declared.plans.Plan.{Plan}
use Rattle.ocm_serve_store.specs.Runs.{Ran}
use Rattle.ocm_serve_store.specs.declared.followed.Origin.{Origin}
use Rattle.ocm_server.specs.Objects.{Shares}
use Rattle.ocm_server.specs.Visits.{Work}
use Rattle.ocm_store.specs.Opening.{IsImageIn, IsOfArea, OpensTo}
use Rattle.ocm_turn.specs.declared.view.Call.{Call}
use Rattle.rand_chacha.specs.ChaCha.{ChaCha}
use Rattle.ocm_law_sessions.specs.Crashes.{IsNext}
use Rattle.ocm_law_sessions.specs.Sessions.{IsSession}
use Rattle.ocm_law_network.specs.Working.{IsBackedBy}
use Rattle.ocm_law_network.specs.Serving.{AreShifts, MayFollow, SettlesAnswers}

-- bytes of a disk are an image with areas of this size that opens to what may follow all these calls behind this base
abbrev pub OpensNext : List ℕ → ℕ → List Entry → List Entry → List ℕ → Type 0
OpensNext host size base history bytes = (next : List Entry) × IsImageIn host size next bytes × IsNext host base history None next

-- ... or what may follow a beginning of them
abbrev pub OpensWithin : List ℕ → ℕ → List Entry → List Entry → List ℕ → Type 0
OpensWithin host size base history bytes = (next : List Entry) × IsImageIn host size next bytes × MayFollow host base history next

-- What a crash leaves at some moment of a run: what it might have left before, what opens as the disk did, or what opens to
-- what may follow a beginning of the run's calls.
abbrev pub LeavesWithin : {D : Type 0} (disk : Ghosts D) → List ℕ → ℕ → D → ℕ → List Entry → List Entry → List ℕ → Type 0
LeavesWithin disk host area before size base history c = disk.may_leave before c ⊎ StaysAsItOpens host area (disk.seen before) c ⊎ OpensWithin host size base history c

-- A server of this host made these calls since it opened its disk: they are a session's behind what the disk opened to, and
-- settle what was answered. What the disk that came back has, and what a crash leaves of it, opens to what may follow them;
-- what a crash leaves at any moment of the run to what may follow a beginning of them. A new journal would have areas of the
-- size `area`; those of the server's journal have the size `size`.
pub record HasRun {D : Type 0} (disk : Ghosts D) (host : List ℕ) (area : ℕ) (before after : D) (calls : ℕ) : Type 0 where
  pub size : ℕ
  pub base : List Entry
  pub history : List Entry
  pub session : IsSession host size base history
  pub settles : SettlesAnswers history
  pub counted : calls ≡ length history
  -- the disk once it was loaded
  pub loaded : D
  pub opened : disk.tells → disk.faithful loaded → OpensTo host area base (disk.seen before)
  pub sized : disk.tells → disk.faithful loaded → IsOfArea host area size (disk.seen before)
  pub reads : disk.tells → OpensNext host size base history (disk.seen after)
  pub leaves : disk.tells → (c : List ℕ) → disk.may_leave after c → OpensNext host size base history c
  pub any_moment : disk.tells → disk.faithful loaded → LeavesOnly disk.moment disk.left_since before after (LeavesWithin disk host area before size base history)

-- The calls of a history are those of these workers, each at its place; each settlement of a worker has exchanges of its own
-- among those that its post made.
pub record HasWorked {C Terms : Type 0} (history : List Entry) (workers : ℕ) (old new : ℕ → Work C Terms) : Type 0 where
  pub all : List (List Call)
  pub shares : Shares history all (length history)
  pub each : (i : ℕ) → i < workers → IsBackedBy (old i).exchanges (new i).exchanges (slice_index_or all i [])

-- So it is where a server ran.
abbrev pub RunsMakeSessions : {D : Type 0} → Ghosts D → (C : Type 0) → Type 0
RunsMakeSessions {D} disk C =
    (plan : Plan) (area limit : ℕ) (before after : D) (calls own : ℕ) (sides : C → Sides) (workers : ℕ) (draws : ℕ → ChaCha) (old new : ℕ → Work C (Origin D disk))
    → Ran disk plan area limit before after calls own (λ config gate first past all. AreShifts sides config gate first workers draws old new past all)
    → (run : HasRun disk plan.host area before after calls) × HasWorked run.history workers old new

-- What a file opens to that has the bytes of a run's disk at its end, or what a crash leaves of it then, may follow all calls of
-- the run; and one that has what a crash left within the run, a beginning of them.
abbrev pub RunsOpenNext : {D : Type 0} → Ghosts D → Type 0
RunsOpenNext {D} disk =
    (host : List ℕ) (area : ℕ) (before after : D) (calls : ℕ) (run : HasRun disk host area before after calls) (bytes : List ℕ) (next : List Entry) → disk.tells → OpensTo host area next bytes
    → ((bytes ≡ disk.seen after) ⊎ disk.may_leave after bytes → IsNext host run.base run.history None next)
    × (OpensWithin host run.size run.base run.history bytes → MayFollow host run.base run.history next)

-- Where a run's disk was left by a crash of an earlier run of the same host, or came back from it, what it opens to may follow
-- a beginning of the earlier run's calls, or all of them, and its areas have the same size.
abbrev pub RunsFollow : {D E : Type 0} → Ghosts D → Ghosts E → Type 0
RunsFollow {D} {E} disk other =
    (host : List ℕ) (area : ℕ) (before after : D) (from to : E) (calls more : ℕ) (run : HasRun disk host area before after calls) (later : HasRun other host area from to more) → other.tells → other.faithful later.loaded
    → (OpensWithin host run.size run.base run.history (other.seen from) → (later.size ≡ run.size) × MayFollow host run.base run.history later.base)
    × (OpensNext host run.size run.base run.history (other.seen from) → (later.size ≡ run.size) × IsNext host run.base run.history None later.base)
