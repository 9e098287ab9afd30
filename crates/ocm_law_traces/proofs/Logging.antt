-- What each line of a script logs, and what the whole log says of the history at the end.
use Rattle.std.proofs.Common.{◌≡◌, ℕ, ◌+◌, ◌^◌, ◌<◌, ◌≤◌, List, [], ◌∷◌, ◌++◌, Bool, true, false, cond, All, Option, Some, None, refl, sym, ap, subst, ◌∙◌, arith}
use Rattle.std.specs.Prelude.{◌⊎◌, ◌&&◌, not}
use Rattle.std.specs.Option.{option_map_or}
use mathlib.Core.Logic.{inl, inr}
use Rattle.std.proofs.lemmas.Bool.{and_parts, and_from}
use Rattle.std.proofs.lemmas.List.Elements.{All-nil, All-cons}
use Rattle.std.proofs.lemmas.Slice.Eq.{bytes_eq-Decides}
use Rattle.ocm_path.specs.Paths.{Segments}
use Rattle.ocm_entry.specs.Proper.{is_short}
use Rattle.ocm_entry.specs.Refusals as refusals
use Rattle.ocm_entry.specs.declared.asks.Ask.{Ask}
use Rattle.ocm_entry.specs.declared.asks.Ask.TheVariants as asks
use Rattle.ocm_entry.specs.declared.asks.Method.{Method}
use Rattle.ocm_entry.specs.declared.asks.Method.TheVariants.{Get, Head, List0, List1}
use Rattle.ocm_entry.specs.declared.entries.Entry.{Entry}
use Rattle.ocm_entry.specs.declared.refusals.Why.{Why}
use Rattle.ocm_entry.specs.declared.refusals.Why.TheVariants.{Unauthorized}
use Rattle.ocm_entry.specs.declared.replies.Reply.{Reply}
use Rattle.ocm_entry.specs.declared.replies.Reply.TheVariants.{File, Items, Refused}
use Rattle.ocm_rules.specs.History.{answer, kept, writes}
use Rattle.ocm_rules.specs.Lean.{count, lean}
use Rattle.ocm_rules.specs.Numbers.{same_text}
use Rattle.ocm_rules.specs.Shares.{moment}
use Rattle.ocm_law_sessions.specs.Sessions.{fault_in, fits, would_change}
use Rattle.ocm_script.specs.declared.events.Event.{Event}
use Rattle.ocm_script.specs.declared.events.Event.TheVariants as events
use Rattle.ocm_access_log.specs.declared.lines.LogLine.{LogLine}
use Rattle.ocm_access_log.specs.Lines.{is_reading, log_line}
use Rattle.ocm_access_log.specs.Reads.{AreLoggedFrom, is_read}
use Rattle.ocm_access_log.specs.Truth.{status_of}
use Rattle.ocm_access_log.specs.Written.{HasTexts, IsLoggable, written, written_log}
use Rattle.ocm_law_logs.specs.Logged as law
use Rattle.ocm_law_logs.specs.Logged.{AreTrue, line_after}
use Rattle.ocm_law_logs.proofs.Truths.{count-grows, moments-grow, logged-true, true-later}
use Rattle.ocm_script_run.specs.Servers.{Server, World, area, change_reply, history, is_short as is_spent, reply_of, server_at, told_reply}
use Rattle.ocm_script_run.specs.Deliveries.{Run, next_wanting}
use Rattle.ocm_script_run.specs.Traces.{IsLogged, Logged, logged, logged_at}
use Rattle.ocm_law_traces.specs.Texts.{HasSoundTexts, HaveSoundTexts}
use Rattle.ocm_law_traces.proofs.Growing.{Extends, Grows, history_at, grows_on, grows-line}

-- ---- one line

-- the status of a reply that a server told is that of the answer
status-told : (wanting : Bool) (server : Server) (ask : Ask) (status : ℕ) → status_of (reply_of wanting server ask) ≡ Some status → status_of (answer server.host (history server) ask) ≡ Some status
status-told true server ask status e = absurd cc
status-told false server ask status e = by_change (would_change server.host (history server) ask) e
  where
    by_reply : (fault : Option ℕ) (room spent : Bool) (answered : Reply) → status_of (change_reply fault room spent answered) ≡ Some status → status_of answered ≡ Some status
    by_reply (Some count) room spent answered e = absurd cc
    by_reply None false spent answered e = absurd cc
    by_reply None true true answered e = absurd cc
    by_reply None true false answered e = e

    by_change : (b : Bool) → status_of (told_reply b server ask) ≡ Some status → status_of (answer server.host (history server) ask) ≡ Some status
    by_change true e = by_reply (fault_in server.calls) (fits server.host area (history server) ask) (is_spent server.fuse) (answer server.host (history server) ask) e
    by_change false e = e

-- the server of a host has that host
pub server_at-host : (world : World) (host : List ℕ) (server : Server) → server_at world host ≡ Some server → server.host ≡ host
server_at-host [] host server e = absurd cc
server_at-host (x ∷ others) host server e = by (server_at-host others host server) (same_text x.host host) refl e
  where
    by : (server_at others host ≡ Some server → server.host ≡ host) → (b : Bool) → same_text x.host host ≡ b → cond b (Some x) (server_at others host) ≡ Some server → server.host ≡ host
    by later true same e = let first : x ≡ server = cc in ap (λ (s : Server). s.host) (sym first) ∙ (bytes_eq-Decides x.host host).0 same
    by later false other e = later e

-- one line of a log: that of a read which the server of this host answered
record IsOne (world : World) (host log : List ℕ) : Type 0 where
  ask : Ask
  status : ℕ
  is : log ≡ written (line_after host (history_at world host) ask status)
  reads : is_read ask ≡ true
  texts : HasTexts ask
  answered : status_of (answer host (history_at world host) ask) ≡ Some status

abbrev NoneOrOne : World → List ℕ → List ℕ → Type 0
NoneOrOne world host log = (log ≡ []) ⊎ IsOne world host log

one-server : (wanting : Bool) (world : World) (host : List ℕ) (method : Method) (secret : List ℕ) (path : Segments) (server : Server) (log : List ℕ)
    → is_reading method ≡ true → HasTexts (asks.Dav secret method path []) → is_short path ≡ true → server_at world host ≡ Some server
    → log ≡ logged server method secret path (reply_of wanting server (asks.Dav secret method path [])) → NoneOrOne world host log
one-server wanting world host method secret path server log reads texts short there is = by (status_of (reply_of wanting server ask)) refl is
  where
    ask : Ask
    ask = asks.Dav secret method path []

    own : server.host ≡ host
    own = server_at-host world host server there

    past : history server ≡ history_at world host
    past = sym (ap (λ (o : Option Server). option_map_or history o []) there)

    line : List ℕ → List Entry → ℕ → List ℕ
    line h g status = log_line (count h g) (moment (kept h g)) method secret path status

    by : (o : Option ℕ) → status_of (reply_of wanting server ask) ≡ o → log ≡ option_map_or (line server.host (history server)) o [] → (log ≡ []) ⊎ IsOne world host log
    by None told is = inl is
    by (Some status) told is = inr (record {
      ask = ask;
      status = status;
      is = is ∙ ap (λ (h : List ℕ). line h (history server) status) own ∙ ap (λ (g : List Entry). line host g status) past;
      reads = and_from _ _ reads short;
      texts = texts;
      answered = subst (λ (g : List Entry). status_of (answer host g ask) ≡ Some status) past (subst (λ (h : List ℕ). status_of (answer h (history server) ask) ≡ Some status) own (status-told wanting server ask status told));
    })

one-at : (wanting : Bool) (world : World) (host : List ℕ) (method : Method) (secret : List ℕ) (path : Segments) (log : List ℕ)
    → is_reading method ≡ true → HasTexts (asks.Dav secret method path []) → is_short path ≡ true → log ≡ logged_at wanting world host method secret path → NoneOrOne world host log
one-at wanting world host method secret path log reads texts short is = by (server_at world host) refl is
  where
    by : (o : Option Server) → server_at world host ≡ o → log ≡ option_map_or (λ (s : Server). logged s method secret path (reply_of wanting s (asks.Dav secret method path []))) o [] → (log ≡ []) ⊎ IsOne world host log
    by None there is = inl is
    by (Some server) there is = one-server wanting world host method secret path server log reads texts short there is

-- each line of a script logs nothing, or one line
one : (world : World) (number : ℕ) (host : List ℕ) (e : Event) (line : Run) (log : List ℕ) → HasSoundTexts e → IsLogged world number host e line log → NoneOrOne world host log
one world number host (events.Dav at secret method path) line log sound is = by (same_text at host) (is_reading method) refl is.2
  where
    by : (b c : Bool) → is_reading method ≡ c → log ≡ cond (b && c) (logged_at (next_wanting is.0) world host method secret path) [] → (log ≡ []) ⊎ IsOne world host log
    by true true reads e = one-at (next_wanting is.0) world host method secret path log reads sound.0 sound.1 e
    by true false reads e = inl e
    by false c reads e = inl e
one world number host (events.Raw at fresh bytes) line log sound is = inl is.1
one world number host e line log sound is = inl is.2

-- ---- what such a line is

refusal-digits : (why : Why) → (100 ≤ refusals.status_of why) × (refusals.status_of why ≤ 999)
refusal-digits Unauthorized = (omega arith, omega arith)
refusal-digits _ = (omega arith, omega arith)

status-digits : (reply : Reply) (status : ℕ) → status_of reply ≡ Some status → (100 ≤ status) × (status ≤ 999)
status-digits (File body) status e = let is : 200 ≡ status = cc in (omega arith, omega arith)
status-digits (Items items) status e = let is : 207 ≡ status = cc in (omega arith, omega arith)
status-digits (Refused why) status e = let is : refusals.status_of why ≡ status = cc in let digits = refusal-digits why in (omega arith, omega arith)
status-digits _ status e = absurd cc

reads-files : (method : Method) → is_reading method ≡ true → not (writes method) ≡ true
reads-files Get h = refl
reads-files Head h = refl
reads-files List0 h = refl
reads-files List1 h = refl
reads-files _ h = absurd cc

law-reads : (ask : Ask) → is_read ask ≡ true → law.is_read ask ≡ true
law-reads (asks.Dav secret method path body) h = reads-files method (and_parts (is_reading method) _ h).0
law-reads _ h = absurd cc

-- ---- the log of a run

-- how many entries a history keeps, ticks aside, and its moment, fit into eight bytes
pub record IsBounded (host : List ℕ) (g : List Entry) : Type 0 where
  pub places : count host g < 2 ^ 64
  pub moments : moment (kept host g) < 2 ^ 64

-- lines after others with a lower place and moment
logged-lower : (place moment low early : ℕ) (lines : List LogLine) → low ≤ place → early ≤ moment → AreLoggedFrom place moment lines → AreLoggedFrom low early lines
logged-lower place moment low early [] above later logged = tt
logged-lower place moment low early (line ∷ lines) above later logged =
    let first = logged.1 in
    let second = logged.2 in
    (logged.0, omega arith, omega arith, logged.3)

-- what a run logged at the server of a host, whose history at the end this is
pub record IsReadOf (host : List ℕ) (world final : World) (log : List ℕ) : Type 0 where
  pub lines : List LogLine
  pub text : log ≡ written_log lines
  pub sound : All IsLoggable lines
  pub order : AreLoggedFrom (count host (history_at world host)) (moment (kept host (history_at world host))) lines
  pub so : AreTrue host (history_at final host) lines
  pub grows : Grows host world final

logged-next : (host : List ℕ) (world mid final : World) (lines : List LogLine) → Grows host world mid
    → AreLoggedFrom (count host (history_at mid host)) (moment (kept host (history_at mid host))) lines → AreLoggedFrom (count host (history_at world host)) (moment (kept host (history_at world host))) lines
logged-next host world mid final lines grows logged =
    let g = history_at world host in
    let next = history_at mid host in
    logged-lower (count host next) (moment (kept host next)) (count host g) (moment (kept host g)) lines
    (subst (λ (n : List Entry). count host g ≤ count host n) (sym grows.1) (count-grows host grows.0 g))
    (subst (λ (n : List Entry). moment (kept host g) ≤ moment (kept host n)) (sym grows.1) (moments-grow host grows.0 g))
    logged

-- nothing was logged, and then the rest
read-none : (host : List ℕ) (world mid final : World) (first rest log : List ℕ) → Grows host world mid → log ≡ first ++ rest → first ≡ [] → IsReadOf host mid final rest → IsReadOf host world final log
read-none host world mid final first rest log grows split none later = record {
  lines = later.lines;
  text = split ∙ ap (λ (l : List ℕ). l ++ rest) none ∙ later.text;
  sound = later.sound;
  order = logged-next host world mid final later.lines grows later.order;
  so = later.so;
  grows = grows_on host world mid final grows later.grows;
}

-- one line was logged, and then the rest
read-one : (host : List ℕ) (world mid final : World) (first rest log : List ℕ) → IsBounded host (history_at final host) → Grows host world mid → log ≡ first ++ rest → IsOne world host first → IsReadOf host mid final rest → IsReadOf host world final log
read-one host world mid final first rest log bounds grows split is later = record {
  lines = line ∷ later.lines;
  text = split ∙ ap (λ (l : List ℕ). l ++ rest) is.is ∙ ap (λ (l : List ℕ). written line ++ l) later.text;
  sound = All-cons IsLoggable line later.lines loggable later.sound;
  order = (is.reads, omega arith, omega arith, logged-next host world mid final later.lines grows later.order);
  so = (law-reads is.ask is.reads, true-later host all.0 g end line (law-reads is.ask is.reads) (ap (lean host) all.1) (logged-true host g is.ask is.status (law-reads is.ask is.reads) is.answered), later.so);
  grows = all;
}
  where
    g : List Entry
    g = history_at world host

    end : List Entry
    end = history_at final host

    all : Extends g end
    all = grows_on host world mid final grows later.grows

    line : LogLine
    line = line_after host g is.ask is.status

    low : count host g ≤ count host end
    low = subst (λ (n : List Entry). count host g ≤ count host n) (sym all.1) (count-grows host all.0 g)

    early : moment (kept host g) ≤ moment (kept host end)
    early = subst (λ (n : List Entry). moment (kept host g) ≤ moment (kept host n)) (sym all.1) (moments-grow host all.0 g)

    loggable : IsLoggable line
    loggable = let under = bounds.places in let before = bounds.moments in let below = low in let past = early in record {
      place = omega arith;
      moment = omega arith;
      reads = is.reads;
      texts = is.texts;
      digits = status-digits (answer host g is.ask) is.status is.answered;
    }

pub read-run : (world : World) (number : ℕ) (host : List ℕ) (lines : List Event) (log : List ℕ) (final : World) (run : Logged world number host lines log final)
    → HaveSoundTexts lines → IsBounded host (history_at final host) → IsReadOf host world final log
read-run world number host [] log final run sound bounds = record {
  lines = [];
  text = run.0;
  sound = All-nil IsLoggable;
  order = tt;
  so = tt;
  grows = subst (λ (w : World). Grows host world w) (sym run.1) ([], refl);
}
read-run world number host (e ∷ lines) log final run sound bounds =
    let mid = run.0.world in
    let grows = grows-line world number host e run.0 run.1 run.3 in
    let later = read-run mid (number + 1) host lines run.2 final run.5 sound.1 bounds in
    elim (first e run.0 run.1 sound.0 run.3) [
      | inl none ↦ read-none host world mid final run.1 run.2 log grows run.4 none later
      | inr is ↦ read-one host world mid final run.1 run.2 log bounds grows run.4 is later
    ]
  where
    first : (e : Event) (line : Run) (log : List ℕ) → HasSoundTexts e → IsLogged world number host e line log → (log ≡ []) ⊎ IsOne world host log
    first e line log sound is = one world number host e line log sound is
