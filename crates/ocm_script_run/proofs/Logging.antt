-- What is logged of the lines of a script at one of its servers, and how it is written.
use Rattle.std.proofs.Common.{◌≡◌, ℕ, ◌+◌, List, [], ◌∷◌, ◌++◌, ◌&&◌, length, take, Bool, true, false, if◌then◌else◌, Option, Some, None, Result, Ok, Err, IfOk, OnOk, refl, sym, ◌∙◌, ap, subst, arith, length-append}
use Rattle.std.specs.Prelude.{option_and_then, option_map}
use Rattle.std.specs.Option.{option_map_or}
use Rattle.std.proofs.Math.Seq.{take-append-add}
use Rattle.std.proofs.lemmas.List.{take-append-le}
use Rattle.std.proofs.lemmas.Slice.Eq.{bytes_eq-Decides}
use Rattle.ocm_base.specs.Outside.{Appends, AppendsPart}
use Rattle.ocm_base.proofs.Pieces.{Appends-twice}
use Rattle.ocm_access_log.specs.Lines.{is_reading, log_line}
use Rattle.ocm_access_log.specs.Truth.{status_of}
use Rattle.ocm_path.specs.Paths.{Segments}
use Rattle.ocm_entry.specs.declared.asks.Ask.{Ask}
use Rattle.ocm_entry.specs.declared.asks.Ask.TheVariants as asks
use Rattle.ocm_entry.specs.declared.asks.Method.{Method}
use Rattle.ocm_rules.specs.Numbers.{same_text}
use Rattle.ocm_script.specs.declared.events.Event.{Event}
use Rattle.ocm_script.specs.declared.events.Event.TheVariants as events
use Rattle.ocm_script_run.specs.Servers.{Server, World, asked_at, reply_at, reply_of, server_at}
use Rattle.ocm_script_run.specs.Deliveries.{Run, next_wanting}
use Rattle.ocm_script_run.specs.Traces.{IsLogged, Logged, logged, logged_at, logged_by}
use Rattle.ocm_script_run.specs.Transcript.{IsRun, run}
use Rattle.ocm_script_run.specs.Running.{Logs, LogsRead, state_at}
use Rattle.ocm_script_run.proofs.Chains.{LeadsOn, LeadsOn-more}
use Rattle.ocm_script_run.proofs.Worlds.{asked-nowhere, state-none, state-there}

-- ---- reads

module _ {S : Type 0} (stand : S → World → Type 0) where
  -- a read at a server that is there
  pub LogsRead-there : (world : World) (new : S) (host : List ℕ) (method : Method) (secret : List ℕ) (path : Segments) (state : ℕ × ℕ) (ask : Ask) (wanting : Bool) (status : Option ℕ) (log : List ℕ)
      → Some state ≡ state_at world host → ask ≡ asks.Dav secret method path []
      → status ≡ option_and_then status_of (reply_at wanting world host ask) → stand new (asked_at wanting world host ask) → log ≡ option_map_or (λ s. log_line state.0 state.1 method secret path s) status []
      → LogsRead stand world new host method secret path log
  LogsRead-there world new host method secret path state ask wanting status log found ask_is status_is are is =
      let here = state-there (server_at world host) state found in
      let dav = asks.Dav secret method path [] in
      let told : status ≡ status_of (reply_of wanting here.0 dav) =
      status_is ∙ ap (λ a. option_and_then status_of (reply_at wanting world host a)) ask_is ∙ ap (λ (o : Option Server). option_and_then status_of (option_map (λ s. reply_of wanting s dav) o)) here.1 in (
        wanting,
        is ∙ (λ i. option_map_or (λ s. log_line (here.2 i).0 (here.2 i).1 method secret path s) (told i) [])
            ∙ sym (ap (λ (o : Option Server). option_map_or (λ s. logged s method secret path (reply_of wanting s dav)) o []) here.1),
        subst (λ a. stand new (asked_at wanting world host a)) ask_is are,
      )

  -- a read where there is none
  pub LogsRead-nowhere : (world : World) (now : S) (host : List ℕ) (method : Method) (secret : List ℕ) (path : Segments) (log : List ℕ) → None ≡ state_at world host → stand now world → log ≡ [] → LogsRead stand world now host method secret path log
  LogsRead-nowhere world now host method secret path log found are is =
      let none = state-none (server_at world host) found in (
        false,
        is ∙ sym (ap (λ (o : Option Server). option_map_or (λ s. logged s method secret path (reply_of false s (asks.Dav secret method path []))) o []) none),
        subst (stand now) (sym (asked-nowhere false world host (asks.Dav secret method path []) none)) are,
      )

-- ---- lines

first_of_both : (a b : Bool) → (a && b) ≡ true → a ≡ true
first_of_both true b h = refl
first_of_both false b h = absurd (cc)

pub second_of_both : (a b : Bool) → (a && b) ≡ true → b ≡ true
second_of_both true b h = h
second_of_both false b h = absurd (cc)

module _ {S : Type 0} (stand : S → World → Type 0) where
  -- a line that reads at the server of this host
  pub Logs-read : (world : World) (n : ℕ) (host at secret : List ℕ) (method : Method) (path : Segments) (new : S) (log : List ℕ) → (same_text at host && is_reading method) ≡ true
      → LogsRead stand world new host method secret path log → Logs stand world n host (events.Dav at secret method path) new log
  Logs-read world n host at secret method path new log reads h =
      let same = (bytes_eq-Decides at host).0 (first_of_both (same_text at host) (is_reading method) reads) in
      record {
        line = run (h.0 ∷ []) world n (events.Dav at secret method path);
        is = (h.0 ∷ [], refl, h.1 ∙ sym (ap (λ (b : Bool). if b then logged_at h.0 world host method secret path else []) reads));
        stands = subst (λ a. stand new (asked_at h.0 world a (asks.Dav secret method path []))) (sym same) h.2;
      }

unlogged : (world : World) (n : ℕ) (host : List ℕ) (e : Event) (line : Run) (log : List ℕ) → IsRun world n e line → log ≡ [] → ((b : Bool) → logged_by b world host e ≡ []) → IsLogged world n host e line log
unlogged world n host (events.Raw at fresh bytes) line log is none by_none = (is, none)
unlogged world n host e line log is none by_none = (is.0, is.1, none ∙ sym (by_none (next_wanting is.0)))

module _ {S : Type 0} (stand : S → World → Type 0) where
  -- a line was run of which nothing is logged
  pub Logs-none : {E : Type 0} (r : Result (List ℕ) E) (old new : S) (n : ℕ) (host : List ℕ) (e : Event) → IfOk r (λ log. log ≡ []) → OnOk r ((world : World) → stand old world → (line : Run) × IsRun world n e line × stand new line.world)
      → ((world : World) (b : Bool) → logged_by b world host e ≡ []) → IfOk r (λ log. (world : World) → stand old world → Logs stand world n host e new log)
  Logs-none (Ok log) old new n host e none ran by_none = λ world are.
      let line = ran world are in
      record { line = line.0; is = unlogged world n host e line.0 log line.1 none (by_none world); stands = line.2 }
  Logs-none (Err fault) old new n host e none ran by_none = tt

-- a line that asks something else, or is at another host
pub logged-other : (world : World) (host : List ℕ) (e : Event) → ((at secret : List ℕ) (method : Method) (path : Segments) → e ≡ events.Dav at secret method path → ⊥) → (b : Bool) → logged_by b world host e ≡ []
logged-other world host (events.Dav at secret method path) other b = absurd (other at secret method path refl)
logged-other world host e other b = refl

pub logged-apart : (world : World) (host at secret : List ℕ) (method : Method) (path : Segments) → (same_text at host && is_reading method) ≡ false → (b : Bool) → logged_by b world host (events.Dav at secret method path) ≡ []
logged-apart world host at secret method path apart b = ap (λ (t : Bool). if t then logged_at b world host method secret path else []) apart

module _ {S : Type 0} (stand : S → World → Type 0) where
  -- one line on
  pub LogLeads-more : (all : List Event) (nodes after : S) (n : ℕ) (host : List ℕ) (e : Event) (es : List Event) (log more new : List ℕ) → LeadsOn stand (λ w k rest text final. Logged w k host rest text final) all nodes n (e ∷ es) log
      → ((w : World) → stand nodes w → Logs stand w n host e after more) → new ≡ log ++ more → LeadsOn stand (λ w k rest text final. Logged w k host rest text final) all after (n + 1) es new
  LogLeads-more all nodes after n host e es log more new h f is =
      let d = f h.world h.stands in
      subst (λ t. LeadsOn stand (λ w k rest text final. Logged w k host rest text final) all after (n + 1) es t) (sym is)
      (LeadsOn-more stand (λ w k rest text final. Logged w k host rest text final) all nodes after n e es log more h d.line.world d.stands (λ t final k. (d.line, more, t, d.is, refl, k)))

-- ---- writing

-- a prefix of a piece is one of the piece and what follows it
pub AppendsPart-front : (old new : Option (List ℕ)) (x y : List ℕ) → AppendsPart old new x → AppendsPart old new (x ++ y)
AppendsPart-front old new x y part = (part.0, rw length-append (omega (arith, part.1)), subst (Appends old new) (sym (take-append-le part.0 x y part.1)) part.2)

-- a piece, and a prefix of what follows it
pub AppendsPart-behind : (old mid new : Option (List ℕ)) (x y : List ℕ) → Appends old mid x → AppendsPart mid new y → AppendsPart old new (x ++ y)
AppendsPart-behind old mid new x y whole part = (
  length x + part.0,
  rw length-append (omega (arith, part.1)),
  subst (Appends old new) (sym (take-append-add x y part.0)) (Appends-twice old mid new x (take part.0 y) whole part.2),
)
