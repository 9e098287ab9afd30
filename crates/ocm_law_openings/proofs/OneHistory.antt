-- The one history of sessions that follow one another.
use Rattle.std.proofs.Common.{◌≡◌, ℕ, List, [], ◌∷◌, ◌++◌, Bool, true, false, refl, sym, ap, ◌∙◌, subst, append_assoc, Option, Some, None}
use Rattle.std.specs.Prelude.{◌⊎◌, ◌||◌}
use Rattle.std.specs.List.{list_any}
use mathlib.Core.Logic.{inl, inr}
use Rattle.ocm_entry.specs.declared.asks.Ask.{Ask}
use Rattle.ocm_entry.specs.declared.entries.Entry.{Entry}
use Rattle.ocm_entry.specs.declared.rows.Share.{Share}
use Rattle.ocm_rules.specs.Lean.{lean}
use Rattle.ocm_rules.specs.History.{IsLegal, kept}
use Rattle.ocm_rules.specs.Numbers.{at_number}
use Rattle.ocm_rules.specs.Shares.{is_live, made}
use Rattle.ocm_law_grants.proofs.Permissions.{at_number-length}
use Rattle.ocm_law_grants.proofs.Revoked.{ended-stays}
use Rattle.ocm_law_grants.proofs.Holding.{made-kept}
use Rattle.ocm_law_lean.proofs.Answered.{lean-goes_on}
use Rattle.ocm_law_lean.proofs.Readings.{live-same, made-same}
use Rattle.ocm_law_sessions.specs.Sessions.{IsSession, fault_in, heard}
use Rattle.ocm_law_sessions.specs.Crashes.{HasLeanWith, IsNext, unheard}
use Rattle.ocm_law_sessions.proofs.Replying.{lean-heard, reply-given, reply-same, session-legal}
use Rattle.ocm_law_openings.specs.Openings.{Follow, IsAdded, IsOneHistory, Period, history_in}

-- ---- calls and openings

-- a history is legal and has the lean list of another
pub record Stands (host : List ℕ) (g now : List Entry) : Type 0 where
  pub legal : IsLegal host g
  pub same : lean host g ≡ lean host now

-- the calls of a session go on behind each legal history with the lean list of what it opened to
pub calls-on : (host : List ℕ) (area : ℕ) (k h g : List Entry) → IsSession host area k h → Stands host g k → Stands host (h ++ g) (h ++ k)
calls-on host area k [] g session stands = stands
calls-on host area k (e ∷ h) g session stands =
    let on = calls-on host area k h g session.1 stands in
    let told = reply-same host area (fault_in h) (h ++ k) (h ++ g) e.ask e.reply (sym on.same) session.0 in
    record {
      legal = (reply-given host area (fault_in h) (h ++ g) e.ask e.reply told, on.legal);
      same = lean-goes_on host e (h ++ g) (h ++ k) on.same;
    }

-- what an opening adds, and the history behind it
pub record Opened (host : List ℕ) (before : Period) (g next : List Entry) : Type 0 where
  pub added : List Entry
  pub is : IsAdded host before g added
  pub stands : Stands host (added ++ g) next

pub opens : (host : List ℕ) (before : Period) (g next : List Entry) → Stands host g (history_in before) → IsNext host before.base before.calls before.flight next → Opened host before g next
opens host before g next stands comes = by_case comes.1
  where
    nothing : lean host next ≡ lean host (history_in before) → Opened host before g next
    nothing same = record { added = []; is = inl refl; stands = record { legal = stands.legal; same = stands.same ∙ sym same } }

    by_ask : (o : Option Ask) → unheard host before.base before.calls before.flight ≡ o → HasLeanWith host (history_in before) o next → Opened host before g next
    by_ask None e with = absurd with
    by_ask (Some ask) e with = record {
      added = heard host g ask ∷ [];
      is = inr (ask, e, refl);
      stands = record { legal = (inl refl, stands.legal); same = lean-heard host g (history_in before) ask stands.same ∙ sym with };
    }

    by_case : (lean host next ≡ lean host (history_in before)) ⊎ HasLeanWith host (history_in before) (unheard host before.base before.calls before.flight) next → Opened host before g next
    by_case (inl same) = nothing same
    by_case (inr with) = by_ask (unheard host before.base before.calls before.flight) refl with

-- ---- the one history

pub one_history : (host : List ℕ) (p : Period) (older : List Period) → Follow host (p ∷ older) → (g : List Entry) × IsOneHistory host p older g
one_history host p [] session = (history_in p, record { calls = refl; legal = session-legal host p.area p.base p.calls session; same = refl })
one_history host p (before ∷ older) follow =
    let earlier = one_history host before older follow.2 in
    let opened = opens host before earlier.0 p.base (record { legal = earlier.1.legal; same = earlier.1.same }) follow.1 in
    let all = calls-on host p.area p.base p.calls (opened.added ++ earlier.0) follow.0 opened.stands in
    (p.calls ++ (opened.added ++ earlier.0), record { calls = (earlier.0, opened.added, earlier.1.calls, opened.is, refl); legal = all.legal; same = all.same })

-- ---- from one session on

-- the last of some sessions has a legal history
pub last-legal : (host : List ℕ) (p : Period) (older : List Period) → Follow host (p ∷ older) → IsLegal host (history_in p)
last-legal host p [] session = session-legal host p.area p.base p.calls session
last-legal host p (before ∷ older) follow = session-legal host p.area p.base p.calls follow.0

-- the history of a session goes on to one that stands for the last session
pub record Since (host : List ℕ) (from now : List Entry) : Type 0 where
  pub more : List Entry
  pub stands : Stands host (more ++ from) now

-- over one opening, and the calls behind it
pub since-on : (host : List ℕ) (from : List Entry) (before p : Period) → IsSession host p.area p.base p.calls → IsNext host before.base before.calls before.flight p.base → Since host from (history_in before) → Since host from (history_in p)
since-on host from before p session comes since =
    let opened = opens host before (since.more ++ from) p.base since.stands comes in
    let all = calls-on host p.area p.base p.calls (opened.added ++ (since.more ++ from)) session opened.stands in
    let P : List Entry → Type 0 = λ g. Stands host g (history_in p) in
    let one : p.calls ++ (opened.added ++ (since.more ++ from)) ≡ (p.calls ++ (opened.added ++ since.more)) ++ from = simp append_assoc in
    record { more = p.calls ++ (opened.added ++ since.more); stands = subst P one all }

pub since-here : (host : List ℕ) (p : Period) (older : List Period) → Follow host (p ∷ older) → Since host (history_in p) (history_in p)
since-here host p older follow = record { more = []; stands = record { legal = last-legal host p older follow; same = refl } }

-- one of the sessions passes a test: its history goes on to one that stands for the last
pub record Passes (host : List ℕ) (test : Period → Bool) (now : List Entry) : Type 0 where
  pub session : Period
  pub passes : test session ≡ true
  pub since : Since host (history_in session) now

pub some-passes : (host : List ℕ) (test : Period → Bool) (p : Period) (older : List Period) → Follow host (p ∷ older) → list_any test (p ∷ older) ≡ true → Passes host test (history_in p)
some-passes host test p [] follow any = by_test (test p) refl any
  where
    by_test : (b : Bool) → test p ≡ b → (b || false) ≡ true → Passes host test (history_in p)
    by_test true e g = record { session = p; passes = e; since = since-here host p [] follow }
    by_test false e g = absurd (cc)
some-passes host test p (before ∷ older) follow any = by_test (test p) refl any (some-passes host test before older follow.2)
  where
    by_test : (b : Bool) → test p ≡ b → (b || list_any test (before ∷ older)) ≡ true → (list_any test (before ∷ older) ≡ true → Passes host test (history_in before)) → Passes host test (history_in p)
    by_test true e g again = record { session = p; passes = e; since = since-here host p (before ∷ older) follow }
    by_test false e g again =
        let found = again g in
        record { session = found.session; passes = found.passes; since = since-on host (history_in found.session) before p follow.0 follow.1 found.since }

-- a session further back goes on to the last
pub since-back : (host : List ℕ) (newer older : List Period) (p q : Period) → Follow host (p ∷ (newer ++ q ∷ older)) → Since host (history_in q) (history_in p)
since-back host [] older p q follow = since-on host (history_in q) q p follow.0 follow.1 (since-here host q older follow.2)
since-back host (before ∷ newer) older p q follow = since-on host (history_in q) before p follow.0 follow.1 (since-back host newer older before q follow.2)

-- ---- shares that have ended

pub ended-since : (host : List ℕ) (from now : List Entry) (i : ℕ) (m : Share) → Since host from now → at_number (made host (kept host from)) i ≡ Some m → is_live host (kept host from) i ≡ false
    → (at_number (made host (kept host now)) i ≡ Some m) × (is_live host (kept host now) i ≡ false)
ended-since host from now i m since is ended = (
  ap (λ ms. at_number ms i) (made-same host now (since.more ++ from) (sym since.stands.same)) ∙ made-kept host since.more from i m is,
  live-same host now (since.more ++ from) i (sym since.stands.same)
      ∙ ended-stays host since.more from i since.stands.legal (at_number-length (made host (kept host from)) i m is) ended,
)
