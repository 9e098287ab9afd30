-- A log, told apart: its bookkeeping, which names the posts, what came back and what a call or a settlement came on; and the
-- session of each of its servers, before each opening of its file and at the end.
use Rattle.std.specs.Prelude.{◌≡◌, ℕ, List, ◌++◌, Bool, false, Some, None}
use Rattle.ocm_disk.specs.declared.disk.Disk.{Ghosts}
use Rattle.ocm_entry.specs.declared.entries.Entry.{Entry}
use Rattle.ocm_rules.specs.Numbers.{at_number}
use Rattle.ocm_law_sessions.specs.Crashes.{IsNext}
use Rattle.ocm_law_sessions.specs.Sessions.{IsSession}
use Rattle.ocm_law_world.specs.World.{Session, is_settlement}
use Rattle.ocm_law_network.specs.Network.{Along, Event, IsLog, IsOn, MayBeInFlight, Post, Posts, Settles, ask_of, posts, session_of}
use Rattle.ocm_law_network.specs.Network.Event.{Begins, Called, Posted, Returned, Settled, Crashed}
use Rattle.ocm_law_network.specs.Runs.{HasRun}

-- ---- the bookkeeping

-- there is a server of this host
abbrev pub IsThere : List Event → List ℕ → Type 0
IsThere log host = (s : Session) × (session_of log host ≡ Some s)

-- what is noted of an event, whatever is replied and whatever a file opens to
abbrev pub IsNoted : (List ℕ → Bool) → List Event → Event → Type 0
IsNoted foreign log (Begins host area) = (foreign host ≡ false) × (session_of log host ≡ None)
IsNoted foreign log (Called host on call) = IsThere log host × (is_settlement call.ask ≡ false) × IsOn log on host call
IsNoted foreign log (Posted post) = Posts log post
IsNoted foreign log (Returned connection bytes) = (post : Post) × (at_number (posts log) connection ≡ Some post)
IsNoted foreign log (Settled host connection call) = IsThere log host × Settles log host connection call.ask
IsNoted foreign log (Crashed host flight next) = IsThere log host × MayBeInFlight log host flight

-- ---- the sessions

-- the calls at each host since its file was opened are those of a session
abbrev pub HaveSessions : List Event → Type 0
HaveSessions log = (host : List ℕ) (s : Session) → session_of log host ≡ Some s → IsSession host s.area s.base s.calls

-- where a file is opened, the calls of its server were those of a session, and it opens to what may follow
abbrev pub OpensSession : List Event → Event → Type 0
OpensSession log (Crashed host flight next) = (s : Session) → session_of log host ≡ Some s → IsSession host s.area s.base s.calls × IsNext host s.base s.calls (ask_of flight) next
OpensSession log _ = Unit {0}

-- Where the bookkeeping is kept, and each server's calls are those of a session, in whichever order the servers made them,
-- it is a log.
abbrev pub SessionsMakeLogs : Type 0
SessionsMakeLogs = (foreign : List ℕ → Bool) (log : List Event) → Along (IsNoted foreign) log → Along OpensSession log → HaveSessions log → IsLog foreign log

-- ---- the runs

-- A session's calls are the first of those that a run of its server made, behind the same base.
pub record IsOfRun {D : Type 0} (disk : Ghosts D) (host : List ℕ) (s : Session) : Type 0 where
  pub area : ℕ
  pub before : D
  pub after : D
  pub calls : ℕ
  pub run : HasRun disk host area before after calls
  pub sized : s.area ≡ run.size
  pub based : s.base ≡ run.base
  pub later : List Entry
  pub split : run.history ≡ later ++ s.calls

-- the calls at each host since its file was opened are the first of those of a run
abbrev pub HaveRuns : {D : Type 0} → Ghosts D → List Event → Type 0
HaveRuns disk log = (host : List ℕ) (s : Session) → session_of log host ≡ Some s → IsOfRun disk host s

-- where a file is opened, so were those before, and it opens to what may follow
abbrev pub OpensRun : {D : Type 0} → Ghosts D → List Event → Event → Type 0
OpensRun disk log (Crashed host flight next) = (s : Session) → session_of log host ≡ Some s → IsOfRun disk host s × IsNext host s.base s.calls (ask_of flight) next
OpensRun disk log _ = Unit {0}

-- So it is of any number of servers that ran beside each other, each as often as it was started.
abbrev pub RunsMakeLogs : {D : Type 0} → Ghosts D → Type 0
RunsMakeLogs disk = (foreign : List ℕ → Bool) (log : List Event) → Along (IsNoted foreign) log → Along (OpensRun disk) log → HaveRuns disk log → IsLog foreign log
