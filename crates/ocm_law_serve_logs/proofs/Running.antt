-- The log of a run, by the image of the disk that came back.
use Rattle.std.proofs.Common.{◌≡◌, ℕ, zero, suc, ◌≤◌, List, [], ◌∷◌, ◌++◌, take, length, Bool, true, false, Option, Some, None, Ok, refl, sym, ap, subst, ◌∙◌, if◌then◌else◌, arith, le_refl, le_trans, take_all}
use Rattle.std.specs.Prelude.{◌⊎◌, IfSome}
use Rattle.std.specs.List.{AllByRecursion}
use Rattle.std.specs.Option.{option_map_or}
use Rattle.std.proofs.lemmas.Grind.{flat_map-append}
use Rattle.std.proofs.lemmas.List.Elements.{All-from_recursion}
use Rattle.std.proofs.lemmas.List.{append_assoc, append-nil}
use mathlib.Core.Logic.{inl, inr}
use Rattle.ocm_dav.specs.declared.configs.Config.{Config}
use Rattle.ocm_disk.specs.declared.disk.Disk.{Ghosts}
use Rattle.ocm_entry.specs.declared.asks.Ask.{Ask}
use Rattle.ocm_entry.specs.declared.entries.Entry.{Entry}
use Rattle.ocm_access_log.specs.Lines.{log_of}
use Rattle.ocm_access_log.specs.Reads.{AreLogged, AreLoggedFrom}
use Rattle.ocm_access_log.specs.Truth.{first_false, status_of}
use Rattle.ocm_access_log.specs.Written.{IsLoggable, written, written_log}
use Rattle.ocm_access_log.specs.declared.lines.LogLine.{LogLine}
use Rattle.ocm_access_log.proofs.LogBack.{log-back}
use Rattle.ocm_journal_audit.specs.Audits.{is_own_host}
use Rattle.ocm_law_logs.specs.Logged.{AreTrue, line_after}
use Rattle.ocm_law_logs.proofs.Truths.{all-later, count-grows, moments-grow, none-false}
use Rattle.ocm_law_sessions.specs.Crashes.{HasLeanWith, unheard}
use Rattle.ocm_law_sessions.specs.Sessions.{IsSession, heard}
use Rattle.ocm_law_sessions.proofs.Entries.{answered-kept}
use Rattle.ocm_law_sessions.proofs.Opening.{opened-answered}
use Rattle.ocm_law_traces.specs.TrueLogs.{IsTrueLog}
use Rattle.ocm_law_traces.proofs.Imaged.{opens-image}
use Rattle.ocm_logcheck.specs.Checks.{Checks, Opened, Opens, told_of, unless_false}
use Rattle.ocm_logcheck.proofs.Telling.{checks-one}
use Rattle.ocm_rules.specs.History.{kept}
use Rattle.ocm_rules.specs.Lean.{count, lean}
use Rattle.ocm_rules.specs.Shares.{moment}
use Rattle.ocm_serve_log.specs.Logs.{IsFront, IsLogOf, capped, line_of, lines_since, reads}
use Rattle.ocm_serve_log.proofs.TrueLines.{lines-true}
use Rattle.ocm_serve_options.specs.declared.plans.Plan.{Plan}
use Rattle.ocm_server.specs.Objects.{Past}
use Rattle.ocm_serve_store.specs.Following.{store_of}
use Rattle.ocm_serve_store.specs.Runs.{Ran}
use Rattle.ocm_serve_store.specs.declared.followed.Origin.{Origin}
use Rattle.ocm_store.specs.Courses.{LeavesAlong}
use Rattle.ocm_store.specs.Opening.{IsImageIn}
use Rattle.ocm_store.specs.Stores.{IsLegalUnder, LeavesNext, terms_of}
use Rattle.ocm_store.specs.declared.terms.Terms.{Terms}
use Rattle.ocm_store.proofs.Runs.{courses-stand}
use Rattle.ocm_turn.specs.Passes.{Gate, Known}
use Rattle.ocm_turn.specs.declared.view.Call.{Call}
use Rattle.ocm_law_serve_logs.specs.ServedLogs.{AreWholeLines, HasTrueLog}
use Rattle.ocm_law_serve_logs.proofs.Fronts.{front-lines}

-- ---- lines, the first of them

all-front : (P : LogLine → Type 0) (n : ℕ) (lines : List LogLine) → AllByRecursion P lines → AllByRecursion P (take n lines)
all-front P zero lines all = tt
all-front P (suc n) [] all = tt
all-front P (suc n) (line ∷ lines) all = (all.0, all-front P n lines all.1)

logged-front : (place time n : ℕ) (lines : List LogLine) → AreLoggedFrom place time lines → AreLoggedFrom place time (take n lines)
logged-front place time zero lines are = tt
logged-front place time (suc n) [] are = tt
logged-front place time (suc n) (line ∷ lines) are = (are.0, are.1, are.2, logged-front line.place line.moment n lines are.3)

true-front : (host : List ℕ) (g : List Entry) (n : ℕ) (lines : List LogLine) → AreTrue host g lines → AreTrue host g (take n lines)
true-front host g zero lines are = tt
true-front host g (suc n) [] are = tt
true-front host g (suc n) (line ∷ lines) are = (are.0, are.1, true-front host g n lines are.2)

split-all : (P : LogLine → Type 0) (xs ys : List LogLine) → AllByRecursion P (xs ++ ys) → AllByRecursion P xs × AllByRecursion P ys
split-all P [] ys all = (tt, all)
split-all P (x ∷ xs) ys all = let rest = split-all P xs ys all.1 in ((all.0, rest.0), rest.1)

-- what is known of the lines of calls is known of those of the earlier ones
all-earlier : (P : LogLine → Type 0) (host : List ℕ) (k done later : List Entry) → AllByRecursion P (lines_since host k (later ++ done)) → AllByRecursion P (lines_since host k done)
all-earlier P host k done [] all = all
all-earlier P host k done (e ∷ before) all = all-earlier P host k done before (split-all P (lines_since host k (before ++ done)) (line_of host ((before ++ done) ++ k) e) all).0

session-earlier : (host : List ℕ) (area : ℕ) (k done later : List Entry) → IsSession host area k (later ++ done) → IsSession host area k done
session-earlier host area k done [] session = session
session-earlier host area k done (e ∷ before) session = session-earlier host area k done before session.1

-- ---- their order

lower : (place time low early : ℕ) (lines : List LogLine) → low ≤ place → early ≤ time → AreLoggedFrom place time lines → AreLoggedFrom low early lines
lower place time low early [] above later are = tt
lower place time low early (line ∷ lines) above later are = let a = are.1 in let b = are.2 in (are.0, omega arith, omega arith, are.3)

from-zero : (n : ℕ) → 0 ≤ n
from-zero n = omega arith

-- lines of calls stand before all lines that are not below where the calls have come
abbrev Leads : List ℕ → List Entry → List Entry → Type 0
Leads host k h = (place time : ℕ) (more : List LogLine) → AllByRecursion IsLoggable (lines_since host k h)
    → count host (h ++ k) ≤ place → moment (kept host (h ++ k)) ≤ time → AreLoggedFrom place time more → AreLogged (lines_since host k h ++ more)

-- so do they with those of one call more
leads-more : (host : List ℕ) (k h : List Entry) (e : Entry) → Leads host k h → Leads host k (e ∷ h)
leads-more host k h e leads = λ place time more all low early are. by place time more (places place low) (moments time early) are (reads e.ask) (status_of e.reply) all
  where
    g : List Entry
    g = h ++ k

    lines : List LogLine
    lines = lines_since host k h

    places : (place : ℕ) → count host (e ∷ g) ≤ place → count host g ≤ place
    places place low = le_trans (count-grows host (e ∷ []) g) low

    moments : (time : ℕ) → moment (kept host (e ∷ g)) ≤ time → moment (kept host g) ≤ time
    moments time early = le_trans (moments-grow host (e ∷ []) g) early

    none : (place time : ℕ) (more : List LogLine) → count host g ≤ place → moment (kept host g) ≤ time → AreLoggedFrom place time more → AllByRecursion IsLoggable (lines ++ []) → AreLogged ((lines ++ []) ++ more)
    none place time more low early are all =
        subst (λ (l : List LogLine). AreLogged (l ++ more)) (sym (append-nil lines)) (leads place time more (subst (λ (l : List LogLine). AllByRecursion IsLoggable l) (append-nil lines) all) low early are)

    by : (place time : ℕ) (more : List LogLine) → count host g ≤ place → moment (kept host g) ≤ time → AreLoggedFrom place time more → (b : Bool) (o : Option ℕ)
        → AllByRecursion IsLoggable (lines ++ (if b then option_map_or (λ status. line_after host g e.ask status ∷ []) o [] else []))
        → AreLogged ((lines ++ (if b then option_map_or (λ status. line_after host g e.ask status ∷ []) o [] else [])) ++ more)
    by place time more low early are false o all = none place time more low early are all
    by place time more low early are true None all = none place time more low early are all
    by place time more low early are true (Some status) all =
        let line : LogLine = line_after host g e.ask status in
        let parts = split-all IsLoggable lines (line ∷ []) all in
        subst (λ (l : List LogLine). AreLogged l) (sym (append_assoc lines (line ∷ []) more))
        (leads line.place line.moment (line ∷ more) parts.0 (le_refl line.place) (le_refl line.moment)
        (parts.1.0.reads, le_refl line.place, le_refl line.moment, lower place time line.place line.moment more low early are))

leads : (host : List ℕ) (k h : List Entry) → Leads host k h
leads host k [] = λ place time more all low early are. lower place time 0 0 more (from-zero place) (from-zero time) are
leads host k (e ∷ h) = leads-more host k h e (leads host k h)

logged : (host : List ℕ) (k h : List Entry) → AllByRecursion IsLoggable (lines_since host k h) → AreLogged (lines_since host k h)
logged host k h all =
    subst (λ (l : List LogLine). AreLogged l) (append-nil (lines_since host k h)) (leads host k h (count host (h ++ k)) (moment (kept host (h ++ k))) [] all (le_refl _) (le_refl _) tt)

read-back : (host : List ℕ) (k h : List Entry) (n : ℕ) → AllByRecursion IsLoggable (lines_since host k h) → log_of (written_log (take n (lines_since host k h))) ≡ Ok (take n (lines_since host k h))
read-back host k h n all =
    log-back 1 0 0 (take n (lines_since host k h)) (All-from_recursion IsLoggable (take n (lines_since host k h)) (all-front IsLoggable n (lines_since host k h) all)) (logged-front 0 0 n (lines_since host k h) (logged host k h all))

-- the log of calls, cut at a line's end, has the first lines
pub cut-back : (host : List ℕ) (k h : List Entry) (front : List ℕ) → AllByRecursion IsLoggable (lines_since host k h) → IsFront front (written_log (lines_since host k h)) → AreWholeLines front
    → (n : ℕ) × (front ≡ written_log (take n (lines_since host k h))) × (log_of front ≡ Ok (take n (lines_since host k h)))
cut-back host k h front all is whole =
    let lines = front-lines (lines_since host k h) front all is whole in
    (lines.0, lines.1, ap log_of lines.1 ∙ read-back host k h lines.0 all)

-- ---- the image

-- an image opens to what has the lean list of a history, or of one that went on after it
abbrev IsLater : List ℕ → ℕ → List Entry → List ℕ → Type 0
IsLater host area g image = (next : List Entry) × IsImageIn host area next image × (later : List Entry) × (lean host next ≡ lean host (later ++ g))

-- what a disk holds has the lean list of the history, or of that with the ask at which the disk failed or that was in flight
same-later : (host : List ℕ) (g next : List Entry) (o : Option Ask) → (lean host next ≡ lean host g) ⊎ HasLeanWith host g o next → (later : List Entry) × (lean host next ≡ lean host (later ++ g))
same-later host g next o (inl same) = ([], same)
same-later host g next None (inr with) = absurd with
same-later host g next (Some ask) (inr with) = (heard host g ask ∷ [], with)

next-later : (terms : Terms) (k h : List Entry) (flight : Option Ask) (image : List ℕ) → LeavesNext terms k h flight image → IsLater terms.host terms.area (h ++ k) image
next-later terms k h flight image leaves =
    let same = same-later terms.host (h ++ k) leaves.0 (unheard terms.host k h flight) leaves.2.1 in (leaves.0, leaves.1, same.0, same.1)

-- so has what a crash leaves at a later moment
along-later : (terms : Terms) (k done later : List Entry) (image : List ℕ) → LeavesAlong terms k done later image → IsLater terms.host terms.area (done ++ k) image
along-later terms k done [] image leaves = next-later terms k done None image leaves
along-later terms k done (e ∷ before) image (inr leaves) = along-later terms k done before image leaves
along-later terms k done (e ∷ before) image (inl leaves) =
    let found = next-later terms k (before ++ done) (Some e.ask) image leaves in (
      found.0,
      found.1,
      found.2 ++ before,
      found.3 ∙ ap (λ (l : List Entry). lean terms.host (found.2 ++ l)) (append_assoc before done k) ∙ ap (λ (l : List Entry). lean terms.host l) (sym (append_assoc found.2 before (done ++ k))),
    )

-- bytes are a true log with these lines
abbrev pub IsTrueOf : List ℕ → List ℕ → List LogLine → List ℕ → Type 0
IsTrueOf host image lines bytes = (log : IsTrueLog host image bytes) × (log.lines ≡ lines)

-- such an image has no false line of the history
log-true : (host : List ℕ) (area : ℕ) (k h : List Entry) (n : ℕ) (image : List ℕ) → is_own_host host ≡ true → IsLater host area (h ++ k) image
    → AreTrue host (h ++ k) (lines_since host k h) → AllByRecursion IsLoggable (lines_since host k h) → IsTrueOf host image (take n (lines_since host k h)) (written_log (take n (lines_since host k h)))
log-true host area k h n image own (next, holds, later, same) true_lines all = (
  record {
    kept = next;
    lines = lines;
    opens = opens;
    reads = read;
    order = logged-front 0 0 n (lines_since host k h) (logged host k h all);
    none_false = none;
    checks = checks;
    told = λ told is. checks-one image (written_log lines) told (Ok (length lines)) is checks;
  },
  refl,
)
  where
    lines : List LogLine
    lines = take n (lines_since host k h)

    whole : kept host next ≡ next
    whole = answered-kept host next (opened-answered host holds.0 holds.1 next holds.3)

    opens : Opens image (Ok (host, next))
    opens = opens-image host area next image own holds

    read : log_of (written_log lines) ≡ Ok lines
    read = read-back host k h n all

    none : first_false host next 1 lines ≡ None
    none = none-false host next 1 lines whole (all-later host later (h ++ k) next lines same (true-front host (h ++ k) n (lines_since host k h) true_lines))

    found : Opened
    found = (host, next)

    checks : Checks image (written_log lines) (Ok (length lines))
    checks = (Ok found, opens, sym (ap (told_of (Ok found)) read ∙ ap (λ (o : Option ℕ). unless_false o (length lines)) none))

-- a log that is cut at a line's end, by such an image
pub cut-true : (host : List ℕ) (area : ℕ) (k h : List Entry) (front image : List ℕ) → is_own_host host ≡ true → IsLater host area (h ++ k) image
    → IsSession host area k h → AllByRecursion IsLoggable (lines_since host k h) → IsFront front (written_log (lines_since host k h)) → AreWholeLines front → IsTrueLog host image front
cut-true host area k h front image own later session all is whole =
    let lines = front-lines (lines_since host k h) front all is whole in
    subst (λ (b : List ℕ). IsTrueLog host image b) (sym lines.1) (log-true host area k h lines.0 image own later (lines-true host area k h session) all).0

-- ---- what comes back of a run

module _ {D : Type 0} (disk : Ghosts D) (plan : Plan) (area limit : ℕ) (before after : D) (calls own : ℕ) (IsEach : Config → Gate → Known (Origin D disk) → Past → List (List Call) → Type 0)
    (run : Ran disk plan area limit before after calls own IsEach) where
  abbrev base : List Entry
  base = run.served.first.base

  abbrev history : List Entry
  history = run.served.service.history

  abbrev lines : List LogLine
  lines = lines_since plan.host base history

  abbrev terms : Terms
  terms = terms_of (store_of run.served.left)

  same-terms : terms ≡ terms_of run.store
  same-terms = (courses-stand disk run.store (store_of run.served.left) base [] history (record { stands = run.served.stands; legal = run.served.lawful }) run.served.course).0

  same-host : terms.host ≡ plan.host
  same-host = ap (λ (t : Terms). t.host) same-terms ∙ run.host_is

  lawful : IsSession plan.host terms.area base history
  lawful =
      subst (λ (host : List ℕ). IsSession host terms.area base history) same-host
      (subst (λ (t : Terms). IsLegalUnder t base history) (ap (λ (t : Origin D disk). t.terms) (sym run.served.service.same_terms)) run.served.service.lawful)

  later : disk.tells → IsLater plan.host terms.area (history ++ base) (disk.seen after)
  later tells =
      subst (λ (host : List ℕ). IsLater host terms.area (history ++ base) (disk.seen after)) same-host
      (next-later terms base history None (disk.seen after) (subst (λ (d : D). LeavesNext terms base history None (disk.seen d)) (sym run.served.back) (run.served.service.stands_for.0.reads tells)))

  pub front-true : disk.tells → is_own_host plan.host ≡ true → AllByRecursion IsLoggable lines → (front : List ℕ) → IsFront front (written_log lines) → AreWholeLines front → IsTrueLog plan.host (disk.seen after) front
  front-true tells sound all front is whole = cut-true plan.host terms.area base history front (disk.seen after) sound (later tells) lawful all is whole

  -- what a sink took of the log of a run is a front of the lines
  within : (put lost : List LogLine) (cut bytes : List ℕ) → put ++ lost ≡ lines → bytes ≡ written_log put ++ cut → IsFront cut (written_log lost) → IsFront bytes (written_log lines)
  within put lost cut bytes all took rest = (
    rest.0,
    ap (λ (b : List ℕ). b ++ rest.0) took ∙ append_assoc (written_log put) cut rest.0 ∙ ap (λ (b : List ℕ). written_log put ++ b) rest.1 ∙ sym (flat_map-append written put lost) ∙ ap written_log all,
  )

  further : (front bytes whole : List ℕ) → IsFront front bytes → IsFront bytes whole → IsFront front whole
  further front bytes whole first second = (first.0 ++ second.0, sym (append_assoc front first.0 second.0) ∙ ap (λ (b : List ℕ). b ++ second.0) first.1 ∙ second.1)

  pub log-front-true : (taken : Option (List ℕ)) (faults left_out : ℕ) (out_of_memory : Bool) → IsLogOf taken faults left_out out_of_memory plan.host base history → disk.tells → is_own_host plan.host ≡ true
      → IfSome taken (λ bytes. (front : List ℕ) → IsFront front bytes → AreWholeLines front → IsTrueLog plan.host (disk.seen after) front)
  log-front-true taken faults left_out out_of_memory (log, all) tells sound = by taken log.took
    where
      by : (o : Option (List ℕ)) → IfSome o (λ bytes. bytes ≡ written_log log.put ++ log.cut) → IfSome o (λ bytes. (front : List ℕ) → IsFront front bytes → AreWholeLines front → IsTrueLog plan.host (disk.seen after) front)
      by None took = tt
      by (Some bytes) took = λ front is whole. front-true tells sound all front (further front bytes (written_log lines) is (within log.put log.lost log.cut bytes log.all took log.within)) whole

  -- and all of it, where none was left out
  all-put : (left_out : ℕ) (put lost : List LogLine) (cut bytes : List ℕ) → left_out ≡ 0 → left_out ≡ capped (length lost) → put ++ lost ≡ lines → bytes ≡ written_log put ++ cut → IsFront cut (written_log lost) → bytes ≡ written_log lines
  all-put left_out put (line ∷ lost) cut bytes none counted all took rest = absurd (omega arith)
  all-put left_out put [] (b ∷ cut) bytes none counted all took rest = absurd (let e = rest.1 in cc)
  all-put left_out put [] [] bytes none counted all took rest = took ∙ append-nil (written_log put) ∙ ap written_log (sym (append-nil put) ∙ all)

  pub whole-log-true : (taken : Option (List ℕ)) (faults left_out : ℕ) (out_of_memory : Bool) → IsLogOf taken faults left_out out_of_memory plan.host base history → disk.tells → is_own_host plan.host ≡ true → left_out ≡ 0
      → IfSome taken (λ bytes. IsTrueOf plan.host (disk.seen after) lines bytes)
  whole-log-true taken faults left_out out_of_memory (log, all) tells sound none = by taken log.took
    where
      everyone : IsTrueOf plan.host (disk.seen after) lines (written_log lines)
      everyone =
          subst (λ (l : List LogLine). IsTrueOf plan.host (disk.seen after) l (written_log l)) (take_all (length lines) lines (omega arith))
          (log-true plan.host terms.area base history (length lines) (disk.seen after) sound (later tells) (lines-true plan.host terms.area base history lawful) all)

      by : (o : Option (List ℕ)) → IfSome o (λ bytes. bytes ≡ written_log log.put ++ log.cut) → IfSome o (λ bytes. IsTrueOf plan.host (disk.seen after) lines bytes)
      by None took = tt
      by (Some bytes) took =
          subst (λ (b : List ℕ). IsTrueOf plan.host (disk.seen after) lines b) (sym (all-put left_out log.put log.lost log.cut bytes none log.counted log.all took log.within)) everyone

  -- a crash at any moment after some calls leaves what their lines are true of
  pub crash-true : (taken : Option (List ℕ)) (faults left_out : ℕ) (out_of_memory : Bool) → IsLogOf taken faults left_out out_of_memory plan.host base history → is_own_host plan.host ≡ true
      → (done since : List Entry) (image front : List ℕ) → history ≡ since ++ done → LeavesAlong (terms_of run.store) base done since image
      → IsFront front (written_log (lines_since plan.host base done)) → AreWholeLines front → IsTrueLog plan.host image front
  crash-true taken faults left_out out_of_memory (log, all) sound done since image front is leaves =
      cut-true plan.host terms.area base done front image sound
      (subst (λ (host : List ℕ). IsLater host terms.area (done ++ base) image) same-host
      (along-later terms base done since image (subst (λ (t : Terms). LeavesAlong t base done since image) (sym same-terms) leaves)))
      (session-earlier plan.host terms.area base done since (subst (λ (h : List Entry). IsSession plan.host terms.area base h) is lawful))
      (all-earlier IsLoggable plan.host base done since (subst (λ (h : List Entry). AllByRecursion IsLoggable (lines_since plan.host base h)) is all))

  pub run-true : (taken : Option (List ℕ)) (faults left_out : ℕ) (out_of_memory : Bool) → IsLogOf taken faults left_out out_of_memory plan.host base history → is_own_host plan.host ≡ true
      → HasTrueLog disk plan.host after (terms_of run.store) base history taken left_out
  run-true taken faults left_out out_of_memory is sound = record {
    cut = λ tells. log-front-true taken faults left_out out_of_memory is tells sound;
    whole = λ tells none. whole-log-true taken faults left_out out_of_memory is tells sound none;
    crash = crash-true taken faults left_out out_of_memory is sound;
  }
