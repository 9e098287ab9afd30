-- A log, from its bookkeeping and the sessions of its servers.
use Rattle.std.proofs.Common.{◌≡◌, ℕ, List, [], ◌∷◌, ◌++◌, Bool, true, false, refl, sym, ap, ◌∙◌, subst}
use Rattle.std.specs.Prelude.{Option, Some, None, option_map, if◌then◌else◌}
use Rattle.ocm_disk.specs.declared.disk.Disk.{Ghosts}
use Rattle.ocm_entry.specs.declared.entries.Entry.{Entry}
use Rattle.ocm_rules.specs.Numbers.{same_text}
use Rattle.ocm_law_sessions.specs.Sessions.{IsSession}
use Rattle.ocm_law_world.specs.World.{Session, new_session, reopened, with_call}
use Rattle.ocm_law_world.proofs.Texts.{text-equal}
use Rattle.ocm_law_network.specs.Network.{Along, Event, MayHappen, Replies, session_of}
use Rattle.ocm_law_network.specs.Network.Event.{Begins, Called, Posted, Returned, Settled, Crashed}
use Rattle.ocm_law_network.specs.Apart.{HaveSessions, IsNoted, IsOfRun, IsThere, OpensRun, OpensSession, RunsMakeLogs, SessionsMakeLogs}
use Rattle.ocm_law_network.proofs.Events.{called-there}

-- ---- sessions before an event

-- those of other hosts are as after it
elsewhere : (log : List Event) (at : List ℕ) (now : Option Session) → ((s : Session) → session_of log at ≡ Some s → IsSession at s.area s.base s.calls)
    → ((host : List ℕ) (s : Session) → (if same_text host at then now else session_of log host) ≡ Some s → IsSession host s.area s.base s.calls) → HaveSessions log
elsewhere log at now own after host s there = by_test (same_text host at) refl
  where
    by_test : (b : Bool) → same_text host at ≡ b → IsSession host s.area s.base s.calls
    by_test true same =
        let here : host ≡ at = text-equal host at same in
        subst (λ h. IsSession h s.area s.base s.calls) (sym here) (own s (ap (session_of log) (sym here) ∙ there))
    by_test false far = after host s (ap (λ b. if b then now else session_of log host) far ∙ there)

no-session : (s : Session) → None ≡ Some s → ⊥
no-session s e = cc

-- a call at a server
module _ (log : List Event) (at : List ℕ) (call : Entry) (after : HaveSessions (Called at None call ∷ log)) where
  with-it : (s : Session) → session_of log at ≡ Some s → IsSession at s.area s.base (call ∷ s.calls)
  with-it s there = after at (with_call s call.ask call.reply) (called-there log at call s there)

  before-call : HaveSessions log
  before-call = elsewhere log at (option_map (λ t. with_call t call.ask call.reply) (session_of log at)) (λ s there. (with-it s there).1) after

  replies-so : IsThere log at → Replies log at call
  replies-so there = record { session = there.0; there = there.1; told = (with-it there.0 there.1).0 }

before : (foreign : List ℕ → Bool) (log : List Event) (event : Event) → IsNoted foreign log event → OpensSession log event → HaveSessions (event ∷ log) → HaveSessions log
before foreign log (Begins at area) noted opens after = elsewhere log at (Some (new_session area)) (λ s there. absurd (no-session s (sym noted.1 ∙ there))) after
before foreign log (Called at on call) noted opens after = before-call log at call after
before foreign log (Posted post) noted opens after = after
before foreign log (Returned connection bytes) noted opens after = after
before foreign log (Settled at connection call) noted opens after = before-call log at call after
before foreign log (Crashed at flight next) noted opens after = elsewhere log at (option_map (λ t. reopened t next) (session_of log at)) (λ s there. (opens s there).0) after

may : (foreign : List ℕ → Bool) (log : List Event) (event : Event) → IsNoted foreign log event → OpensSession log event → HaveSessions (event ∷ log) → MayHappen foreign log event
may foreign log (Begins at area) noted opens after = noted
may foreign log (Called at on call) noted opens after = (replies-so log at call after noted.0, noted.1, noted.2)
may foreign log (Posted post) noted opens after = noted
may foreign log (Returned connection bytes) noted opens after = noted
may foreign log (Settled at connection call) noted opens after = (replies-so log at call after noted.0, noted.1)
may foreign log (Crashed at flight next) noted opens after = record { session = noted.0.0; there = noted.0.1; in_flight = noted.1; comes = (opens noted.0.0 noted.0.1).1 }

pub sessions-make-logs : SessionsMakeLogs
sessions-make-logs foreign [] noted opens sessions = tt
sessions-make-logs foreign (event ∷ log) noted opens sessions =
    (may foreign log event noted.0 opens.0 sessions, sessions-make-logs foreign log noted.1 opens.1 (before foreign log event noted.0 opens.0 sessions))

-- ---- runs

older-session : (host : List ℕ) (area : ℕ) (k later h : List Entry) → IsSession host area k (later ++ h) → IsSession host area k h
older-session host area k [] h session = session
older-session host area k (e ∷ later) h session = older-session host area k later h session.1

session-of-run : {D : Type 0} (disk : Ghosts D) (host : List ℕ) (s : Session) → IsOfRun disk host s → IsSession host s.area s.base s.calls
session-of-run disk host s o =
    older-session host s.area s.base o.later s.calls
    (subst (λ n. IsSession host n s.base (o.later ++ s.calls)) (sym o.sized) (subst (λ k. IsSession host o.run.size k (o.later ++ s.calls)) (sym o.based) (subst (IsSession host o.run.size o.run.base) o.split o.run.session)))

module _ {D : Type 0} (disk : Ghosts D) where
  opens-session : (log : List Event) (event : Event) → OpensRun disk log event → OpensSession log event
  opens-session log (Crashed at flight next) opens = λ s there. let o = opens s there in (session-of-run disk at s o.0, o.1)
  opens-session log _ opens = tt

  all-open : (log : List Event) → Along (OpensRun disk) log → Along OpensSession log
  all-open [] opens = tt
  all-open (event ∷ log) opens = (opens-session log event opens.0, all-open log opens.1)

  pub runs-make-logs : RunsMakeLogs disk
  runs-make-logs = λ foreign log noted opens runs. sessions-make-logs foreign log noted (all-open log opens) (λ host s there. session-of-run disk host s (runs host s there))
