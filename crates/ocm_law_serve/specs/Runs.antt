-- The runs of one server, one after another, each from the disk that the one before it left. Runs and histories stand newest first.
use Rattle.std.specs.Prelude.{◌≡◌, ◌⊎◌, ℕ, List, [], ◌∷◌, ◌++◌, ⊤, None}
use mathlib.Core.Logic.{inl, inr}
use Rattle.ocm_disk.specs.Disk.{LeavesOnly}
use Rattle.ocm_disk.specs.declared.disk.Disk.{Ghosts}
use Rattle.ocm_entry.specs.declared.entries.Entry.{Entry}
use Rattle.ocm_store.specs.Opening.{OpensTo}
use Rattle.ocm_store.specs.Stores.{LeavesNext}
use Rattle.ocm_store.specs.Courses.{IsMomentBehind}
use Rattle.ocm_serve_store.specs.Runs.{KeepsSince, LeavesInRun}
use Rattle.ocm_law_sessions.specs.Sessions.{IsSession}
use Rattle.ocm_law_openings.specs.Openings.{Period}
use Rattle.ocm_law_openings.specs.Keeping.{Keeps}

-- A server of this host ran from a disk to a disk: behind the list to which the disk opened it made these calls, which are
-- a session's. What the disk reads that came back, and what a crash leaves of it, opens to what may follow them; and what a
-- crash leaves at some moment of the run to what may follow at some place of them; since the moment behind a call, to what may
-- follow that call or a later one. A new journal would have areas of the size `area`; those of the server's journal have the
-- size `size`.
pub record WasRun {D : Type 0} (disk : Ghosts D) (host : List ℕ) (area : ℕ) (before after : D) (base history : List Entry) : Type 0 where
  pub size : ℕ
  pub session : IsSession host size base history
  -- the disk once it was loaded
  pub loaded : D
  pub opened : disk.tells → disk.faithful loaded → OpensTo host area base (disk.seen before)
  pub reads : disk.tells → LeavesNext (record { host = host; area = size }) base history None (disk.seen after)
  pub leaves : disk.tells → (c : List ℕ) → disk.may_leave after c → LeavesNext (record { host = host; area = size }) base history None c
  pub any_moment : disk.tells → disk.faithful loaded → LeavesOnly disk.moment disk.left_since before after (LeavesInRun disk host area before (record { host = host; area = size }) base history)
  pub moments : List ℕ
  pub since : disk.tells → KeepsSince disk (record { host = host; area = size }) base history moments after

-- one run of a server of this host
pub record RunOf {D : Type 0} (disk : Ghosts D) (host : List ℕ) (area : ℕ) : Type 0 where
  pub before : D
  pub after : D
  pub base : List Entry
  pub history : List Entry
  pub was : WasRun disk host area before after base history

-- the session of a run, with all its calls
abbrev pub whole : {D : Type 0} {disk : Ghosts D} {host : List ℕ} {area : ℕ} → RunOf disk host area → Period
whole r = record { area = r.was.size; base = r.base; calls = r.history; flight = None }

-- ---- from one run to the next

-- bytes that a crash left at some moment of a run since the one behind the newest of the calls `done`
pub record IsLeftSince {D : Type 0} (disk : Ghosts D) {host : List ℕ} {area : ℕ} (r : RunOf disk host area) (bytes : List ℕ) : Type 0 where
  pub done : List Entry
  pub later : List Entry
  pub at : ℕ
  pub split : r.history ≡ later ++ done
  pub behind : IsMomentBehind done r.was.moments at
  pub left : disk.left_since r.after at bytes

-- Bytes are left by a run: its disk reads them when it comes back; or a crash leaves them then; or a crash left them at some
-- moment of the run; or at some moment since one of its calls.
abbrev pub IsLeftBy : {D : Type 0} (disk : Ghosts D) {host : List ℕ} {area : ℕ} → RunOf disk host area → List ℕ → Type 0
IsLeftBy disk r bytes = (bytes ≡ disk.seen r.after) ⊎ disk.may_leave r.after bytes ⊎ disk.left_since r.after (disk.moment r.before) bytes ⊎ IsLeftSince disk r bytes

-- a crash would have left of a disk what it reads
abbrev pub IsSettled : {D : Type 0} (disk : Ghosts D) → D → Type 0
IsSettled disk d = (c : List ℕ) → disk.may_leave d c → c ≡ disk.seen d

-- These runs led to these bytes: the last one left them, the one before that left what the last one began with, and so on.
-- The disk of each was settled when the run began, and was read faithfully.
abbrev pub LeadTo : {D : Type 0} (disk : Ghosts D) {host : List ℕ} {area : ℕ} → List ℕ → List (RunOf disk host area) → Type 0
LeadTo disk bytes [] = ⊤
LeadTo disk bytes (r ∷ older) = IsLeftBy disk r bytes × (IsSettled disk r.before × disk.faithful r.was.loaded) × LeadTo disk (disk.seen r.before) older

-- What a session has of a run that left these bytes: all its calls, where it came to its end, and else a beginning of them. That has all calls
-- `done` where the bytes were left since the moment behind these.
abbrev pub HasCallsOf : {D : Type 0} (disk : Ghosts D) {host : List ℕ} {area : ℕ} (r : RunOf disk host area) (bytes : List ℕ) → IsLeftBy disk r bytes → Period → Type 0
HasCallsOf disk r bytes (inl reads) p = p.calls ≡ r.history
HasCallsOf disk r bytes (inr (inl crash)) p = p.calls ≡ r.history
HasCallsOf disk r bytes (inr (inr (inl within))) p = (later : List Entry) × (r.history ≡ later ++ p.calls)
HasCallsOf disk r bytes (inr (inr (inr since))) p = (more later : List Entry) × (p.calls ≡ more ++ since.done) × (r.history ≡ later ++ p.calls)

-- sessions are those of these runs, one of each, behind what its disk opened to
abbrev pub AreOf : {D : Type 0} (disk : Ghosts D) {host : List ℕ} {area : ℕ} (bytes : List ℕ) (runs : List (RunOf disk host area)) → LeadTo disk bytes runs → List Period → Type 0
AreOf disk bytes [] led [] = ⊤
AreOf disk bytes [] led (p ∷ ps) = ⊥
AreOf disk bytes (r ∷ older) led [] = ⊥
AreOf disk bytes (r ∷ older) led (p ∷ ps) =
    (p.area ≡ r.was.size) × (p.base ≡ r.base) × HasCallsOf disk r bytes led.0 p × AreOf disk (disk.seen r.before) older led.2 ps

-- So the runs of one server keep what is promised: their sessions, the last with all its calls, have one legal history that
-- outlives every crash.
abbrev pub RunsKeep : {D : Type 0} → Ghosts D → Type 0
RunsKeep disk =
    (host : List ℕ) (area : ℕ) (r : RunOf disk host area) (older : List (RunOf disk host area)) (led : LeadTo disk (disk.seen r.before) older) → disk.tells → disk.faithful r.was.loaded
    → (ps : List Period) × AreOf disk (disk.seen r.before) older led ps × Keeps host (whole r) ps
