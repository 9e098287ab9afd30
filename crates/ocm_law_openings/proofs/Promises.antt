-- What is promised of one server, of its sessions.
use Rattle.std.proofs.Common.{◌≡◌, ℕ, List, [], ◌∷◌, ◌++◌, true, false, subst, Some}
use Rattle.ocm_entry.specs.declared.entries.Entry.{Entry}
use Rattle.ocm_entry.specs.declared.replies.Reply.{Reply}
use Rattle.ocm_rules.specs.History.{kept}
use Rattle.ocm_law_repeats.specs.Repeats.{is_for_records}
use Rattle.ocm_law_served.specs.Requests.{FileRequest, ask_with}
use Rattle.ocm_law_served.specs.Served.{IsAnsweredSo}
use Rattle.ocm_law_served.proofs.Answering.{answered-so, session-before}
use Rattle.ocm_law_sessions.specs.Sessions.{IsSession}
use Rattle.ocm_law_sessions.proofs.Replying.{session-legal}
use Rattle.ocm_law_world.specs.World.{IsReached, Session, World}
use Rattle.ocm_law_openings.specs.Openings.{Follow, GoOn, Period, was_taken_in}
use Rattle.ocm_law_openings.specs.Keeping.{Keeps, until}
use Rattle.ocm_law_openings.specs.Worlds.{IsLife}
use Rattle.ocm_law_openings.proofs.OneHistory.{one_history}
use Rattle.ocm_law_openings.proofs.Lives.{lives-reached}
use Rattle.ocm_law_openings.proofs.Repeating.{taken-once, unchanged-kept}

-- ---- one of the sessions

-- older sessions follow one another too
follow-from : (host : List ℕ) (newer older : List Period) (q : Period) → Follow host (newer ++ q ∷ older) → Follow host (q ∷ older)
follow-from host [] older q follow = follow
follow-from host (p ∷ []) older q follow = follow.2
follow-from host (p ∷ x ∷ newer) older q follow = follow-from host (x ∷ newer) older q follow.2

-- the calls of the last one are a session's
follow-session : (host : List ℕ) (q : Period) (older : List Period) → Follow host (q ∷ older) → IsSession host q.area q.base q.calls
follow-session host q [] follow = follow
follow-session host q (before ∷ older) follow = follow.0

-- they follow one another up to some calls of the last one
follow-until : (host : List ℕ) (q : Period) (older : List Period) (before : List Entry) → Follow host (q ∷ older) → IsSession host q.area q.base before → Follow host (until q before ∷ older)
follow-until host q [] before follow session = session
follow-until host q (earlier ∷ older) before follow session = (session, follow.1, follow.2)

-- a session, the call that follows these calls of it, and the sessions before
pub record At (host : List ℕ) (q : Period) (older : List Period) (before : List Entry) (e : Entry) : Type 0 where
  pub session : IsSession host q.area q.base (e ∷ before)
  pub follow : Follow host (until q before ∷ older)

pub at-call : (host : List ℕ) (ps newer older : List Period) (q : Period) (later before : List Entry) (e : Entry) → Follow host ps → ps ≡ newer ++ q ∷ older → q.calls ≡ later ++ e ∷ before → At host q older before e
at-call host ps newer older q later before e follow same split =
    let P : List Period → Type 0 = λ l. Follow host l in
    let here = follow-from host newer older q (subst P same follow) in
    let Q : List Entry → Type 0 = λ h. IsSession host q.area q.base h in
    let session = session-before host q.area q.base later (e ∷ before) (subst Q split (follow-session host q older here)) in
    record { session = session; follow = follow-until host q older before here session.1 }

-- ---- what is promised

served-at : (host : List ℕ) (q : Period) (older : List Period) (before : List Entry) (secret : List ℕ) (request : FileRequest) (reply : Reply) → At host q older before (record { ask = ask_with secret request; reply = reply }) → IsAnsweredSo host q.area q.base before secret request reply
served-at host q older before secret request reply at = answered-so host q.area q.base before secret request reply (session-legal host q.area q.base before at.session.1) at.session.0

once-at : (host : List ℕ) (q : Period) (older : List Period) (before : List Entry) (e : Entry) → At host q older before e → was_taken_in (until q before ∷ older) e.ask ≡ true → is_for_records e.ask ≡ false → kept host (e ∷ before ++ q.base) ≡ kept host (before ++ q.base)
once-at host q older before e at taken other =
    unchanged-kept host q.area q.base before e.ask e.reply (taken-once host (until q before) older e.ask at.follow taken other) at.session.0

pub keeps : (host : List ℕ) (p : Period) (older : List Period) → Follow host (p ∷ older) → Keeps host p older
keeps host p older follow =
    let one = one_history host p older follow in
    record {
      history = one.0;
      one = one.1;
      served = λ newer others q later before secret request reply same split.
          served-at host q others before secret request reply (at-call host (p ∷ older) newer others q later before (record { ask = ask_with secret request; reply = reply }) follow same split);
      once = λ newer others q later before e same split taken other. once-at host q others before e (at-call host (p ∷ older) newer others q later before e follow same split) taken other;
    }

-- ---- in every run

pub keeps-life : (host : List ℕ) (s : Session) (ps : List Period) → IsLife host s ps → (p : Period) × (older : List Period) × IsLife host s (p ∷ older) × Keeps host p older
keeps-life host s [] life = absurd life.last
keeps-life host s (p ∷ older) life = (p, older, life, keeps host p older life.follow)

pub keeps-reached : (w : World) (host : List ℕ) (s : Session) → IsReached w → w.session host ≡ Some s → (p : Period) × (older : List Period) × IsLife host s (p ∷ older) × Keeps host p older
keeps-reached w host s reached there = let life = lives-reached w reached host s there in keeps-life host s life.0 life.1

-- a life that went on, with what is promised of it
pub record KeptOn (host : List ℕ) (s : Session) (ps : List Period) : Type 0 where
  pub p : Period
  pub older : List Period
  pub life : IsLife host s (p ∷ older)
  pub on : GoOn ps (p ∷ older)
  pub keeps : Keeps host p older

pub keeps-on : (host : List ℕ) (s : Session) (ps qs : List Period) → IsLife host s qs → GoOn ps qs → KeptOn host s ps
keeps-on host s ps [] life on = absurd life.last
keeps-on host s ps (p ∷ older) life on = record { p = p; older = older; life = life; on = on; keeps = keeps host p older life.follow }
