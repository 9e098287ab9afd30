-- The runs of one server have sessions that follow one another.
use Rattle.std.proofs.Common.{◌≡◌, ℕ, List, [], ◌∷◌, ◌++◌, refl, sym, ap, ◌∙◌, subst, append-nil, append_assoc, Option, Some, None}
use mathlib.Core.Logic.{inl, inr}
use Rattle.ocm_dav.specs.declared.configs.Config.{Config}
use Rattle.ocm_disk.specs.Disk.{LeavesOnly}
use Rattle.ocm_disk.specs.declared.disk.Disk.{Ghosts}
use Rattle.ocm_entry.specs.declared.asks.Ask.{Ask}
use Rattle.ocm_entry.specs.declared.entries.Entry.{Entry}
use Rattle.ocm_journal.specs.Openings.{Opens, StaysAsItOpens}
use Rattle.ocm_rules.specs.History.{IsLegal}
use Rattle.ocm_serve_options.specs.declared.plans.Plan.{Plan}
use Rattle.ocm_serve_store.specs.Following.{store_of}
use Rattle.ocm_serve_store.specs.Runs.{KeepsSince, LeavesInRun, Ran}
use Rattle.ocm_serve_store.specs.declared.followed.Origin.{Origin}
use Rattle.ocm_server.specs.Objects.{Past}
use Rattle.ocm_store.specs.Acts.{StandsLegally}
use Rattle.ocm_store.specs.Courses.{LeavesAlong}
use Rattle.ocm_store.specs.Opening.{OpensTo}
use Rattle.ocm_store.specs.Stores.{IsLegalUnder, LeavesNext, area_of, disk_of, terms_of}
use Rattle.ocm_store.specs.declared.terms.Terms.{Terms}
use Rattle.ocm_store.proofs.Opens.{opens-legal, opens-once}
use Rattle.ocm_store.proofs.Runs.{courses-stand}
use Rattle.ocm_turn.specs.Passes.{Gate, Known}
use Rattle.ocm_turn.specs.declared.view.Call.{Call}
use Rattle.ocm_law_sessions.specs.Crashes.{IsNext}
use Rattle.ocm_law_sessions.specs.Sessions.{IsSession}
use Rattle.ocm_law_served.proofs.Answering.{session-before}
use Rattle.ocm_law_openings.specs.Openings.{Follow, Period}
use Rattle.ocm_law_openings.proofs.Promises.{keeps}
use Rattle.ocm_law_serve.specs.Runs.{AreOf, HasCallsOf, IsLeftBy, LeadTo, RunOf, RunsKeep, WasRun, whole}

-- ---- one run

-- what a store of this host knows that has areas of this size
abbrev terms : List ℕ → ℕ → Terms
terms host size = record { host = host; area = size }

-- a server that ran made the calls of a session
pub ran-was : {D : Type 0} (disk : Ghosts D) (plan : Plan) (area limit : ℕ) (before after : D) (calls own : ℕ) (IsEach : Config → Gate → Known (Origin D disk) → Past → List (List Call) → Type 0)
    (ran : Ran disk plan area limit before after calls own IsEach) → WasRun disk plan.host area before after ran.served.first.base ran.served.service.history
ran-was {D} disk plan area limit before after calls own IsEach ran =
    let s = ran.served in
    let base = s.first.base in
    let history = s.service.history in
    let size = area_of ran.store in
    let same : terms_of ran.store ≡ terms plan.host size = ap (λ h. terms h size) ran.host_is in
    let stood = courses-stand disk ran.store (store_of s.left) base [] history (record { stands = s.stands; legal = s.lawful }) s.course in
    let ground : terms_of (store_of s.left) ≡ terms plan.host size = stood.0 ∙ same in
    let end : StandsLegally disk (store_of s.left) base history = subst (λ h. StandsLegally disk (store_of s.left) base h) (append-nil history) stood.1 in
    record {
      size = size;
      session = subst (λ (t : Terms). IsLegalUnder t base history) ground end.legal;
      loaded = disk_of ran.store;
      opened = λ tells faithful. (s.is_base tells faithful).1;
      reads = λ tells.
          subst (λ d. LeavesNext (terms plan.host size) base history None (disk.seen d)) (sym s.back)
          (subst (λ (t : Terms). LeavesNext t base history None (disk.seen (disk_of (store_of s.left)))) ground (end.stands.reads tells));
      leaves = λ tells c may. subst (λ (t : Terms). LeavesNext t base history None c) ground (end.stands.leaves tells c (subst (λ d. disk.may_leave d c) s.back may));
      any_moment = λ tells faithful. subst (λ (t : Terms). LeavesOnly disk.moment disk.left_since before after (LeavesInRun disk plan.host area before t base history)) same (ran.any_moment tells faithful);
      moments = s.service.moments;
      since = λ tells. subst (λ (t : Terms). KeepsSince disk t base history s.service.moments after) same (ran.since tells);
    }

-- ---- places of the calls

-- a beginning of calls, and what was in flight behind it, after which a list may follow
pub record Place (host : List ℕ) (base history next : List Entry) : Type 0 where
  pub later : List Entry
  pub calls : List Entry
  pub flight : Option Ask
  pub split : history ≡ later ++ calls
  pub comes : IsNext host base calls flight next

-- bytes open to this list
abbrev Opened : List ℕ → ℕ → List ℕ → List Entry → Type 0
Opened host area bytes next = OpensTo host area next bytes

left-next : (host : List ℕ) (area size : ℕ) (base h next : List Entry) (flight : Option Ask) (bytes : List ℕ) → OpensTo host area next bytes → LeavesNext (terms host size) base h flight bytes → IsNext host base h flight next
left-next host area size base h next flight bytes opens left =
    subst (λ k. IsNext host base h flight k) (opens-once host area left.0 next bytes (inr (size, left.1)) opens) left.2

along-place : (host : List ℕ) (area size : ℕ) (base history next : List Entry) (bytes : List ℕ) → OpensTo host area next bytes → LeavesAlong (terms host size) base [] history bytes → Place host base history next
along-place host area size base [] next bytes opens left = record { later = []; calls = []; flight = None; split = refl; comes = left-next host area size base [] next None bytes opens left }
along-place host area size base (e ∷ before) next bytes opens (inl here) =
    let now = subst (λ h. LeavesNext (terms host size) base h (Some e.ask) bytes) (append-nil before) here in
    record { later = e ∷ []; calls = before; flight = Some e.ask; split = refl; comes = left-next host area size base before next (Some e.ask) bytes opens now }
along-place host area size base (e ∷ before) next bytes opens (inr earlier) =
    let rest = along-place host area size base before next bytes opens earlier in
    record { later = e ∷ rest.later; calls = rest.calls; flight = rest.flight; split = ap (λ l. e ∷ l) rest.split; comes = rest.comes }

-- calls behind others, and what was in flight behind them, after which a list may follow
pub record PlaceBehind (host : List ℕ) (base done later next : List Entry) : Type 0 where
  pub newer : List Entry
  pub more : List Entry
  pub flight : Option Ask
  pub split : later ≡ newer ++ more
  pub comes : IsNext host base (more ++ done) flight next

along-behind : (host : List ℕ) (area size : ℕ) (base done later next : List Entry) (bytes : List ℕ) → OpensTo host area next bytes → LeavesAlong (terms host size) base done later bytes → PlaceBehind host base done later next
along-behind host area size base done [] next bytes opens left = record { newer = []; more = []; flight = None; split = refl; comes = left-next host area size base done next None bytes opens left }
along-behind host area size base done (e ∷ before) next bytes opens (inl here) =
    record { newer = e ∷ []; more = before; flight = Some e.ask; split = refl; comes = left-next host area size base (before ++ done) next (Some e.ask) bytes opens here }
along-behind host area size base done (e ∷ before) next bytes opens (inr earlier) =
    let rest = along-behind host area size base done before next bytes opens earlier in
    record { newer = e ∷ rest.newer; more = rest.more; flight = rest.flight; split = ap (λ l. e ∷ l) rest.split; comes = rest.comes }

-- nothing was done
untouched : (host : List ℕ) (base history next : List Entry) → IsLegal host base → next ≡ base → Place host base history next
untouched host base history next legal same =
    record { later = history; calls = []; flight = None; split = sym (append-nil history); comes = subst (λ k. IsNext host base [] None k) (sym same) (legal, inl refl) }

-- a disk opens as before
stays-place : (host : List ℕ) (area : ℕ) (base history next : List Entry) (seen bytes : List ℕ) → OpensTo host area base seen → OpensTo host area next bytes → StaysAsItOpens host area seen bytes → Place host base history next
stays-place host area base history next seen bytes opened opens (inl same) =
    untouched host base history next (opens-legal host area base seen opened) (opens-once host area next base seen (subst (λ c. OpensTo host area next c) same opens) opened)
stays-place host area base history next seen bytes opened opens (inr (blank, none)) =
    untouched host base history next (opens-legal host area base seen opened) (empty none ∙ sym (opens-once host area base [] seen opened (inl (blank, refl))))
  where
    empty : Opens host area [] bytes → next ≡ []
    empty (inl (still, is)) = opens-once host area next [] bytes opens (inl (still, refl))
    empty (inr (size, form, image)) = opens-once host area next [] bytes opens (inr (size, (form, [], image, refl)))

-- the session of a run that left some bytes
pub record Part {D : Type 0} (disk : Ghosts D) {host : List ℕ} {area : ℕ} (r : RunOf disk host area) (bytes : List ℕ) (left : IsLeftBy disk r bytes) (next : List Entry) : Type 0 where
  pub session : Period
  pub sized : session.area ≡ r.was.size
  pub based : session.base ≡ r.base
  pub has : HasCallsOf disk r bytes left session
  pub lawful : IsSession host session.area session.base session.calls
  pub comes : IsNext host session.base session.calls session.flight next

part : {D : Type 0} (disk : Ghosts D) (host : List ℕ) (area : ℕ) (r : RunOf disk host area) (bytes : List ℕ) (next : List Entry) → disk.tells → disk.faithful r.was.loaded → ((c : List ℕ) → disk.may_leave r.before c → c ≡ disk.seen r.before)
    → OpensTo host area next bytes → (left : IsLeftBy disk r bytes) → Part disk r bytes left next
part disk host area r bytes next tells faithful settled opens (inl reads) =
    record {
      session = whole r;
      sized = refl;
      based = refl;
      has = refl;
      lawful = r.was.session;
      comes = left-next host area r.was.size r.base r.history next None bytes opens (subst (λ c. LeavesNext (terms host r.was.size) r.base r.history None c) (sym reads) (r.was.reads tells));
    }
part disk host area r bytes next tells faithful settled opens (inr (inl crash)) =
    record {
      session = whole r;
      sized = refl;
      based = refl;
      has = refl;
      lawful = r.was.session;
      comes = left-next host area r.was.size r.base r.history next None bytes opens (r.was.leaves tells bytes crash);
    }
part {D} disk host area r bytes next tells faithful settled opens (inr (inr (inl within))) =
    let m = r.was.any_moment tells faithful in
    by_place (by_case (m.each bytes within))
  where
    by_case : LeavesInRun disk host area r.before (terms host r.was.size) r.base r.history bytes → Place host r.base r.history next
    by_case (inl had) = stays-place host area r.base r.history next (disk.seen r.before) bytes (r.was.opened tells faithful) opens (inl (settled bytes had))
    by_case (inr (inl stays)) = stays-place host area r.base r.history next (disk.seen r.before) bytes (r.was.opened tells faithful) opens stays
    by_case (inr (inr along)) = along-place host area r.was.size r.base r.history next bytes opens along

    by_place : Place host r.base r.history next → Part disk r bytes (inr (inr (inl within))) next
    by_place place = record {
      session = record { area = r.was.size; base = r.base; calls = place.calls; flight = place.flight };
      sized = refl;
      based = refl;
      has = (place.later, place.split);
      lawful = session-before host r.was.size r.base place.later place.calls (subst (λ h. IsSession host r.was.size r.base h) place.split r.was.session);
      comes = place.comes;
    }
part disk host area r bytes next tells faithful settled opens (inr (inr (inr since))) =
    let kept = r.was.since tells since.done since.later since.at since.split since.behind in
    let place = along-behind host area r.was.size r.base since.done since.later next bytes opens (kept.1 bytes since.left) in
    let calls = place.more ++ since.done in
    let split : r.history ≡ place.newer ++ calls = since.split ∙ ap (λ l. l ++ since.done) place.split ∙ append_assoc place.newer place.more since.done in
    record {
      session = record { area = r.was.size; base = r.base; calls = calls; flight = place.flight };
      sized = refl;
      based = refl;
      has = (place.more, place.newer, refl, split);
      lawful = session-before host r.was.size r.base place.newer calls (subst (λ h. IsSession host r.was.size r.base h) split r.was.session);
      comes = place.comes;
    }

-- ---- runs in a row

-- sessions that lead to a list
abbrev pub FollowTo : List ℕ → List Period → List Entry → Type 0
FollowTo host [] next = Unit {0}
FollowTo host (p ∷ ps) next = IsNext host p.base p.calls p.flight next × Follow host (p ∷ ps)

follow-more : (host : List ℕ) (p : Period) (ps : List Period) → IsSession host p.area p.base p.calls → FollowTo host ps p.base → Follow host (p ∷ ps)
follow-more host p [] session to = session
follow-more host p (q ∷ ps) session to = (session, to.0, to.1)

pub record Sessions {D : Type 0} (disk : Ghosts D) (host : List ℕ) (area : ℕ) (bytes : List ℕ) (runs : List (RunOf disk host area)) (led : LeadTo disk bytes runs) (next : List Entry) : Type 0 where
  pub all : List Period
  pub are : AreOf disk bytes runs led all
  pub follow : FollowTo host all next

sessions : {D : Type 0} (disk : Ghosts D) (host : List ℕ) (area : ℕ) (bytes : List ℕ) (runs : List (RunOf disk host area)) (led : LeadTo disk bytes runs) (next : List Entry) → disk.tells → OpensTo host area next bytes → Sessions disk host area bytes runs led next
sessions disk host area bytes [] led next tells opens = record { all = []; are = tt; follow = tt }
sessions disk host area bytes (r ∷ older) led next tells opens =
    let rest = sessions disk host area (disk.seen r.before) older led.2 r.base tells (r.was.opened tells led.1.1) in
    let p = part disk host area r bytes next tells led.1.1 led.1.0 opens led.0 in
    let to : FollowTo host rest.all p.session.base = subst (λ k. FollowTo host rest.all k) (sym p.based) rest.follow in
    record {
      all = p.session ∷ rest.all;
      are = (p.sized, p.based, p.has, rest.are);
      follow = (p.comes, follow-more host p.session rest.all p.lawful to);
    }

pub runs-keep : {D : Type 0} (disk : Ghosts D) → RunsKeep disk
runs-keep disk = λ host area r older led tells faithful.
    let rest = sessions disk host area (disk.seen r.before) older led r.base tells (r.was.opened tells faithful) in
    (rest.all, rest.are, keeps host (whole r) rest.all (follow-more host (whole r) rest.all r.was.session rest.follow))

-- a run alone keeps what is promised
pub run-keeps : {D : Type 0} (disk : Ghosts D) (host : List ℕ) (area : ℕ) (before after : D) (base history : List Entry) (was : WasRun disk host area before after base history)
    → (let p : Period = record { area = was.size; base = base; calls = history; flight = None } in Follow host (p ∷ []))
run-keeps disk host area before after base history was = was.session
