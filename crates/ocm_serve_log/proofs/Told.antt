-- A store with a log that was served.
use Rattle.std.proofs.Common.{◌≡◌, ◌⊎◌, ◌≤◌, ◌∙◌, ℕ, List, [], ◌∷◌, ◌++◌, arith, Bool, true, false, Option, Some, None, if◌then◌else◌, refl, sym, ap, subst}
use Rattle.std.specs.List.{AllByRecursion}
use Rattle.std.specs.Option.{option_map_or}
use Rattle.ocm_access_log.specs.Truth.{status_of}
use Rattle.ocm_access_log.specs.Written.{IsLoggable}
use Rattle.ocm_access_log.specs.declared.lines.LogLine.{LogLine}
use Rattle.ocm_disk.specs.declared.disk.Disk.{Ghosts}
use Rattle.ocm_entry.specs.declared.asks.Ask.{Ask}
use Rattle.ocm_entry.specs.declared.entries.Entry.{Entry}
use Rattle.ocm_entry.specs.Refusals as refusals
use Rattle.ocm_entry.specs.declared.refusals.Why.{Why}
use Rattle.ocm_entry.specs.declared.refusals.Why.TheVariants.{Unauthorized}
use Rattle.ocm_entry.specs.declared.replies.Reply.{Reply}
use Rattle.ocm_entry.specs.declared.replies.Reply.TheVariants.{File, Items, Refused}
use Rattle.ocm_law_logs.specs.Logged.{line_after}
use Rattle.ocm_rules.specs.History.{kept}
use Rattle.ocm_rules.specs.Lean.{count}
use Rattle.ocm_rules.specs.Shares.{moment}
use Rattle.ocm_serve_log.specs.Logs.{Holds, IsLog, IsLogOf, line_at, line_of, line_with, lines_since, reads}
use Rattle.ocm_serve_log.specs.Standing.{StandsLogged}
use Rattle.ocm_serve_log.specs.declared.logs.Log.{Log}
use Rattle.ocm_server.specs.Objects.{Begins, Past, Service}
use Rattle.ocm_serve_store.specs.Following.{CameSince, IsLegalSince, StandsSince, origin_of, store_of}
use Rattle.ocm_dav.specs.declared.configs.Config.{Config}
use Rattle.ocm_disk.specs.Disk.{LeavesOnly}
use Rattle.ocm_journal.specs.Openings.{StaysAsItOpens}
use Rattle.ocm_serve_options.specs.declared.plans.Plan.{Plan}
use Rattle.ocm_serve_store.proofs.Told.{run-keeps, run-leaves, run-since}
use Rattle.ocm_serve_store.specs.Runs.{IsOpenedTo, WasServed, Ran, config_of}
use Rattle.ocm_store.specs.Opening.{IsOfArea}
use Rattle.ocm_serve_store.specs.declared.followed.Followed.{Followed}
use Rattle.ocm_serve_store.specs.declared.followed.Origin.{Origin}
use Rattle.ocm_store.specs.Courses.{Course, CourseAt}
use Rattle.ocm_store.specs.Stores.{IsLegalUnder, Stands, area_of, disk_of, host_of, terms_of}
use Rattle.ocm_store.specs.declared.stores.Store.{Store}
use Rattle.ocm_store.specs.declared.terms.Terms.{Terms}
use Rattle.ocm_turn.specs.Passes.{Gate, Known}
use Rattle.ocm_turn.specs.declared.view.Call.{Call}

-- What was served with a log was served: T are stores with a log.
module _ {D T K : Type 0} (disk : Ghosts D) (followed : T → Followed D disk) (log : T → Log K) (taken : K → Option (List ℕ)) (faults : K → ℕ) where
  abbrev pub Stood : T → List Entry → List Entry → Type 0
  Stood logged k h = StandsLogged disk taken faults (followed logged) (log logged) k h

  abbrev pub Came : T → List Entry → List Entry → List ℕ → Type 0
  Came logged k h moments = CameSince disk (followed logged) k h moments

  abbrev pub Serviced : Gate → Known (Origin D disk) → T → ℕ → ℕ → (Past → List (List Call) → Type 0) → Type 0
  Serviced gate first left calls own IsEach = Service (λ (t : T). origin_of (followed t)) Stood Came (IsLegalSince disk) gate first left calls own IsEach

  abbrev pub unlogged : (gate : Gate) (first : Known (Origin D disk)) (left : T) (calls own : ℕ) (IsEach : Past → List (List Call) → Type 0) → Serviced gate first left calls own IsEach
      → Service (λ (f : Followed D disk). origin_of f) (StandsSince disk) (CameSince disk) (IsLegalSince disk) gate first (followed left) calls own IsEach
  unlogged gate first left calls own IsEach s = record {
    history = s.history;
    moments = s.moments;
    all = s.all;
    each = s.each;
    shares = s.shares;
    stands_for = s.stands_for.0;
    came_by = s.came_by;
    paired = s.paired;
    lawful = s.lawful;
    same_terms = s.same_terms;
    counted = s.counted;
    all_own = s.all_own;
    whole = s.whole;
  }

  -- a store with a log that was served, by what is told of it as an object
  pub logged_run : (limit : ℕ) (IsBase : List Entry → Type 0) (store : Store D disk) (begun left : T) (after : D) (c o calls own : ℕ)
      (IsEach : Gate → Known (Origin D disk) → Past → List (List Call) → Type 0) (gate : Gate) (first : Known (Origin D disk)) (bytes : Option (List ℕ)) (count lost : ℕ) (short : Bool)
      → store_of (followed begun) ≡ store → (followed begun).born.value ≡ store
      → (c ≡ calls) × (o ≡ own) → Begins limit (origin_of (followed begun)) gate first → IsBase first.base × Stood begun first.base [] × IsLegalSince disk first.terms first.base []
      → Serviced gate first left calls own (IsEach gate first) → after ≡ disk_of (store_of (followed left))
      → ((lines : List LogLine) → Holds taken faults (log left) lines → IsLog bytes count lost short lines)
      → (run : WasServed disk limit IsBase store after c o IsEach) × IsLogOf bytes count lost short (host_of store) run.first.base run.service.history
  logged_run limit IsBase store begun left after c o calls own IsEach gate first bytes count lost short is born same begins base service back finish =
      let host : host_of (store_of (followed left)) ≡ host_of store =
      ap (λ (t : Origin D disk). t.terms.host) (service.same_terms ∙ begins.terms_are) ∙ ap (λ (s : Store D disk). host_of s) is in
      let lines : IsLogOf bytes count lost short (host_of store) first.base service.history =
      subst (λ (h : List ℕ). IsLogOf bytes count lost short h first.base service.history) host (finish _ service.stands_for.1, service.stands_for.2) in
      let birth : (followed left).born.value ≡ store = ap (λ (t : Origin D disk). t.born.value) (service.same_terms ∙ begins.terms_are) ∙ born in
      let run : WasServed disk limit IsBase store after calls own IsEach = record {
        gate = gate;
        first = first;
        begun = followed begun;
        left = followed left;
        begins = begins;
        is_base = base.0;
        stands = subst (λ (s : Store D disk). Stands disk s first.base []) is base.1.0.0;
        lawful = subst (λ (t : Terms). IsLegalUnder t first.base []) (ap (λ (t : Origin D disk). t.terms) begins.terms_are ∙ ap (λ (s : Store D disk). terms_of s) is) base.2;
        service = unlogged gate first left calls own (IsEach gate first) service;
        course = subst (λ (s : Store D disk). Course disk s service.history (store_of (followed left))) birth service.stands_for.0.1;
        course_at = subst (λ (s : Store D disk). CourseAt disk s service.history service.moments (store_of (followed left))) birth service.came_by;
        back = back;
      } in
      subst (λ (z : ℕ × ℕ). (run : WasServed disk limit IsBase store after z.0 z.1 IsEach) × IsLogOf bytes count lost short (host_of store) run.first.base run.service.history)
      (λ i. (sym same.0 i, sym same.1 i)) (run, lines)

-- a server that ran with a log, by what is told of its load and of the store that was served
pub logged_ran : {D : Type 0} (disk : Ghosts D) (only_now : (d : D) (c : List ℕ) → disk.left_since d (disk.moment d) c → disk.may_leave d c) (plan : Plan) (area limit : ℕ) (IsBase : List Entry → Type 0)
    (before after : D) (calls own : ℕ) (IsEach : Config → Gate → Known (Origin D disk) → Past → List (List Call) → Type 0) (config : Config) (store : Store D disk) (bytes : Option (List ℕ)) (count lost : ℕ) (short : Bool)
    → config ≡ config_of plan → host_of store ≡ plan.host → (disk.tells → disk.faithful (disk_of store) → IsOfArea plan.host area (area_of store) (disk.seen before))
    → (disk.tells → disk.faithful (disk_of store) → LeavesOnly disk.moment disk.left_since before (disk_of store) (λ x. disk.may_leave before x ⊎ StaysAsItOpens plan.host area (disk.seen before) x))
    → ((k : List Entry) → IsBase k → IsOpenedTo disk plan.host area before (disk_of store) k)
    → (s : WasServed disk limit IsBase store after calls own (IsEach config)) × IsLogOf bytes count lost short (host_of store) s.first.base s.service.history
    → (run : Ran disk plan area limit before after calls own IsEach) × IsLogOf bytes count lost short plan.host run.served.first.base run.served.service.history
logged_ran disk only_now plan area limit IsBase before after calls own IsEach config store bytes count lost short config_is host_is area_is loaded opens (s, log) = (
  record {
    config = config;
    config_is = config_is;
    store = store;
    host_is = host_is;
    area_is = area_is;
    served = record {
      gate = s.gate;
      first = s.first;
      begun = s.begun;
      left = s.left;
      begins = s.begins;
      is_base = opens s.first.base s.is_base;
      stands = s.stands;
      lawful = s.lawful;
      service = s.service;
      course = s.course;
      course_at = s.course_at;
      back = s.back;
    };
    all_own = s.service.all_own;
    any_moment = λ tells faithful. run-leaves disk only_now plan.host area limit IsBase store before after calls own (IsEach config) s tells (loaded tells faithful);
    kept = λ done later is. run-keeps disk only_now limit IsBase store after calls own (IsEach config) s done later is;
    since = λ tells. run-since disk only_now limit IsBase store after calls own (IsEach config) s tells;
  },
  subst (λ (h : List ℕ). IsLogOf bytes count lost short h s.first.base s.service.history) host_is log,
)

-- the lines of one call more
pub lines_more : (host : List ℕ) (k h : List Entry) (ask : Ask) (reply : Reply) (place time : ℕ) → place ≡ count host (h ++ k) → time ≡ moment (kept host (h ++ k))
    → lines_since host k (record { ask = ask; reply = reply } ∷ h) ≡ lines_since host k h ++ line_at place time ask reply
lines_more host k h ask reply place time at when =
    ap (λ (l : List LogLine). lines_since host k h ++ l) (λ i. line_with (sym at i) (sym when i) ask (status_of reply))

-- ---- that lines can be written

refusal-digits : (why : Why) → (100 ≤ refusals.status_of why) × (refusals.status_of why ≤ 999)
refusal-digits Unauthorized = (omega arith, omega arith)
refusal-digits _ = (omega arith, omega arith)

status-digits : (reply : Reply) (status : ℕ) → status_of reply ≡ Some status → (100 ≤ status) × (status ≤ 999)
status-digits (File body) status e = let is : 200 ≡ status = cc in (omega arith, omega arith)
status-digits (Items items) status e = let is : 207 ≡ status = cc in (omega arith, omega arith)
status-digits (Refused why) status e = let is : refusals.status_of why ≡ status = cc in let digits = refusal-digits why in (omega arith, omega arith)
status-digits _ status e = absurd cc

all-both : (xs ys : List LogLine) → AllByRecursion IsLoggable xs → AllByRecursion IsLoggable ys → AllByRecursion IsLoggable (xs ++ ys)
all-both [] ys a b = b
all-both (x ∷ xs) ys a b = (a.0, all-both xs ys a.1 b)

-- the lines of one call more can be written
pub loggable_more : (host : List ℕ) (k h : List Entry) (ask : Ask) (reply : Reply) (place time : ℕ) → place ≡ count host (h ++ k) → time ≡ moment (kept host (h ++ k))
    → (reads ask ≡ true → (status : ℕ) → (100 ≤ status) × (status ≤ 999) → IsLoggable (record { place = place; moment = time; ask = ask; status = status }))
    → AllByRecursion IsLoggable (lines_since host k h) → AllByRecursion IsLoggable (lines_since host k (record { ask = ask; reply = reply } ∷ h))
loggable_more host k h ask reply place time at when can before =
    all-both (lines_since host k h) (line_of host (h ++ k) (record { ask = ask; reply = reply })) before (by (reads ask) refl (status_of reply) refl)
  where
    by : (b : Bool) → reads ask ≡ b → (o : Option ℕ) → status_of reply ≡ o
        → AllByRecursion IsLoggable (if b then option_map_or (λ status. line_after host (h ++ k) ask status ∷ []) o [] else [])
    by false other o has = tt
    by true is None has = tt
    by true is (Some status) has =
        (subst (λ (z : ℕ × ℕ). IsLoggable (record { place = z.0; moment = z.1; ask = ask; status = status })) (λ i. (at i, when i)) (can is status (status-digits reply status has)), tt)
