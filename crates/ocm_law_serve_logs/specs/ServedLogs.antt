-- What is promised of the log of a server that ran. Histories stand newest first, and lines oldest first.
use Rattle.std.specs.Prelude.{◌≡◌, ℕ, List, [], ◌∷◌, ◌++◌, take, ⊤, Bool, Option, Ok, IfSome, IsTrue}
use Rattle.std.specs.List.{AllByRecursion}
use Rattle.ocm_disk.specs.declared.disk.Disk.{Ghosts}
use Rattle.ocm_entry.specs.declared.entries.Entry.{Entry}
use Rattle.ocm_access_log.specs.Lines.{log_of}
use Rattle.ocm_access_log.specs.Written.{IsLoggable, written_log}
use Rattle.ocm_journal_audit.specs.Audits.{is_own_host}
use Rattle.ocm_law_traces.specs.TrueLogs.{IsTrueLog}
use Rattle.ocm_serve_log.specs.Logs.{IsFront, IsLogOf, lines_since}
use Rattle.ocm_serve_options.specs.declared.plans.Plan.{Plan}
use Rattle.ocm_serve_store.specs.Runs.{Ran}
use Rattle.ocm_store.specs.Courses.{LeavesAlong}
use Rattle.ocm_store.specs.Stores.{terms_of}
use Rattle.ocm_store.specs.declared.terms.Terms.{Terms}

-- bytes that end with a line feed, or none
abbrev pub AreWholeLines : List ℕ → Type 0
AreWholeLines [] = ⊤
AreWholeLines (b ∷ []) = b ≡ 10
AreWholeLines (b ∷ c ∷ bytes) = AreWholeLines (c ∷ bytes)

-- A front of the log of the calls h after a list k, cut at a line's end, has the first lines and is read back as these. Each line is one that can be
-- written.
abbrev pub FrontsAreLines : Type 0
FrontsAreLines = (host : List ℕ) (k h : List Entry) (front : List ℕ) → AllByRecursion IsLoggable (lines_since host k h)
    → IsFront front (written_log (lines_since host k h)) → AreWholeLines front
    → (n : ℕ) × (front ≡ written_log (take n (lines_since host k h))) × (log_of front ≡ Ok (take n (lines_since host k h)))

-- A server ran by a plan, whatever is known of each of its workers. Each `Ran` is one, with nothing said of them.
abbrev pub HasRun : {D : Type 0} → Ghosts D → Plan → ℕ → ℕ → D → D → ℕ → ℕ → Type 0
HasRun disk plan area limit before after calls own = Ran disk plan area limit before after calls own (λ config gate first past all. ⊤)

-- What a server that ran wrote to its log, cut at any line's end, is a true log by the disk that came back, where the disk tells its bytes.
abbrev pub LogsAreTrue : {D : Type 0} → Ghosts D → Type 0
LogsAreTrue {D} disk = (plan : Plan) (area limit : ℕ) (before after : D) (calls own : ℕ)
    (run : HasRun disk plan area limit before after calls own) (taken : Option (List ℕ)) (faults left_out : ℕ) (out_of_memory : Bool)
    → IsLogOf taken faults left_out out_of_memory plan.host run.served.first.base run.served.service.history → disk.tells → IsTrue (is_own_host plan.host)
    → IfSome taken (λ bytes. (front : List ℕ) → IsFront front bytes → AreWholeLines front → IsTrueLog plan.host (disk.seen after) front)

-- Where no line was left out all of it is, and it has the line of each read.
abbrev pub WholeLogsAreTrue : {D : Type 0} → Ghosts D → Type 0
WholeLogsAreTrue {D} disk = (plan : Plan) (area limit : ℕ) (before after : D) (calls own : ℕ)
    (run : HasRun disk plan area limit before after calls own) (taken : Option (List ℕ)) (faults left_out : ℕ) (out_of_memory : Bool)
    → IsLogOf taken faults left_out out_of_memory plan.host run.served.first.base run.served.service.history → disk.tells → IsTrue (is_own_host plan.host)
    → left_out ≡ 0
    → IfSome taken (λ bytes. (log : IsTrueLog plan.host (disk.seen after) bytes) × (log.lines ≡ lines_since plan.host run.served.first.base run.served.service.history))

-- The lines of the calls that were made before a crash, cut at any line's end, are a true log by what the crash leaves: at any moment of the calls `later`,
-- which were made after the calls `done`. That a crash leaves nothing else is what is promised of a run.
abbrev pub LogsOutlastCrashes : {D : Type 0} → Ghosts D → Type 0
LogsOutlastCrashes {D} disk = (plan : Plan) (area limit : ℕ) (before after : D) (calls own : ℕ)
    (run : HasRun disk plan area limit before after calls own) (taken : Option (List ℕ)) (faults left_out : ℕ) (out_of_memory : Bool)
    → IsLogOf taken faults left_out out_of_memory plan.host run.served.first.base run.served.service.history → IsTrue (is_own_host plan.host)
    → (done later : List Entry) (image front : List ℕ) → run.served.service.history ≡ later ++ done → LeavesAlong (terms_of run.store) run.served.first.base done later image
    → IsFront front (written_log (lines_since plan.host run.served.first.base done)) → AreWholeLines front → IsTrueLog plan.host image front

-- What is known of the log of a run of a server of this host, and of the disk that came back: the calls of the history after the list that the disk
-- opened to, and what the sink has taken, where it tells that.
pub record HasTrueLog {D : Type 0} (disk : Ghosts D) (host : List ℕ) (after : D) (terms : Terms) (base history : List Entry) (taken : Option (List ℕ)) (left_out : ℕ) : Type 0 where
  -- cut at any line's end it is a true log by that disk, where the disk tells its bytes
  pub cut : disk.tells → IfSome taken (λ bytes. (front : List ℕ) → IsFront front bytes → AreWholeLines front → IsTrueLog host (disk.seen after) front)
  -- where no line was left out all of it is, and it has the line of each read
  pub whole : disk.tells → left_out ≡ 0 → IfSome taken (λ bytes. (log : IsTrueLog host (disk.seen after) bytes) × (log.lines ≡ lines_since host base history))
  -- the lines of the calls that were made before a crash, cut at any line's end, are a true log by what it left, at any moment of the calls `later`
  pub crash : (done later : List Entry) (image front : List ℕ) → history ≡ later ++ done → LeavesAlong terms base done later image
      → IsFront front (written_log (lines_since host base done)) → AreWholeLines front → IsTrueLog host image front
