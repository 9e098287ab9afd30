-- Servers that are there stay there, whatever lines are run.
use Rattle.std.proofs.Common.{◌≡◌, ◌⊎◌, inl, inr, ℕ, ◌+◌, List, [], ◌∷◌, ◌++◌, ◌||◌, Bool, true, false, if◌then◌else◌, Option, Some, None, refl, sym, ◌∙◌, ap, subst}
use Rattle.std.specs.List.{list_any}
use Rattle.std.specs.Option.{option_map_or}
use Rattle.std.proofs.lemmas.List.Folds.{list_any-append}
use Rattle.std.proofs.lemmas.Slice.Eq.{bytes_eq-Decides}
use Rattle.ocm_types.specs.Draws.{fresh_plus}
use Rattle.ocm_types.specs.declared.letters.Numbered.{Numbered}
use Rattle.ocm_entry.specs.declared.asks.Ask.{Ask}
use Rattle.ocm_entry.specs.declared.asks.Ask.TheVariants as asks
use Rattle.ocm_entry.specs.declared.replies.Reply.{Reply}
use Rattle.ocm_entry.specs.declared.replies.Reply.TheVariants as replies
use Rattle.ocm_rules.specs.Numbers.{same_text}
use Rattle.ocm_script.specs.declared.events.Event.{Event}
use Rattle.ocm_script.specs.declared.events.Event.TheVariants as events
use Rattle.ocm_script.specs.Events.{host_of}
use Rattle.ocm_script_run.specs.Asked.{ask_of}
use Rattle.ocm_script_run.specs.Servers.{Server, World, asked_at, message_at, reply_at, restart, server_after, server_at, step_at}
use Rattle.ocm_script_run.specs.Deliveries.{Run, all_delivered, answered, deliver, delivered, given, next_wanting, nothing, others_wanting, pump, pumped, unreachable}
use Rattle.ocm_script_run.specs.Transcript.{IsRun, Talked, Transcript, plain, run}
use Rattle.ocm_script_run.specs.Traces.{IsLogged, Logged, names}
use Rattle.ocm_script_run.proofs.Talking.{same-host}

-- whether there is a server of this host
abbrev pub is_there : List ℕ → World → Bool
is_there host world = list_any (λ (server : Server). same_text server.host host) world

-- the server of this host stays there
abbrev pub Stays : List ℕ → World → World → Type 0
Stays host old new = is_there host old ≡ true → is_there host new ≡ true

text_same : (host : List ℕ) → same_text host host ≡ true
text_same host = (bytes_eq-Decides host host).1 refl

first_true : (a b : Bool) → a ≡ true → (a || b) ≡ true
first_true true b h = refl
first_true false b h = absurd (cc)

second_true : (a b : Bool) → b ≡ true → (a || b) ≡ true
second_true true b h = refl
second_true false b h = h

-- ---- steps

-- the same hosts are there after a step of the server of one of them
there-step : (step : Server → Server) (world : World) (at host : List ℕ) → ((s : Server) → s.host ≡ at → (step s).host ≡ at) → is_there host (step_at step world at) ≡ is_there host world
there-step step [] at host keeps = refl
there-step step (server ∷ others) at host keeps = by_test (same_text server.host at) refl (there-step step others at host keeps)
  where
    by_test : (b : Bool) → same_text server.host at ≡ b → is_there host (step_at step others at) ≡ is_there host others
        → is_there host (if b then step server ∷ others else server ∷ step_at step others at) ≡ is_there host (server ∷ others)
    by_test true is rest =
        let same = (bytes_eq-Decides server.host at).0 is in
        ap (λ h. same_text h host || is_there host others) (keeps server same ∙ sym same)
    by_test false is rest = ap (λ b. same_text server.host host || b) rest

step-stays : (step : Server → Server) (world : World) (at host : List ℕ) → ((s : Server) → s.host ≡ at → (step s).host ≡ at) → Stays host world (step_at step world at)
step-stays step world at host keeps there = there-step step world at host keeps ∙ there

asked-stays : (wanting : Bool) (world : World) (at : List ℕ) (ask : Ask) (host : List ℕ) → Stays host world (asked_at wanting world at ask)
asked-stays wanting world at ask host = step-stays (λ server. server_after wanting server ask) world at host (λ s e. e)

-- ---- deliveries

answered-stays : (wanting : Bool) (world : World) (n : ℕ) (sender : List ℕ) (lost : Bool) (message : Numbered) (reply : Reply) (host : List ℕ) → Stays host world (answered wanting world n sender lost message reply).world
answered-stays wanting world n sender true message reply host there = there
answered-stays wanting world n sender false message reply host there = asked-stays wanting world sender _ host there

given-stays : (wanting : List Bool) (world : World) (n : ℕ) (sender : List ℕ) (lost : Bool) (message : Numbered) (ask : Ask) (host : List ℕ) → Stays host world (given wanting world n sender lost message ask).world
given-stays wanting world n sender lost message ask host there = by_reply (reply_at (next_wanting wanting) world message.to ask)
  where
    on : World
    on = asked_at (next_wanting wanting) world message.to ask

    by_reply : (o : Option Reply) → is_there host (option_map_or (λ reply. answered (next_wanting (others_wanting wanting)) on n sender lost message reply) o (unreachable world n message.to)).world ≡ true
    by_reply None = there
    by_reply (Some reply) = answered-stays (next_wanting (others_wanting wanting)) on n sender lost message reply host (asked-stays (next_wanting wanting) world message.to ask host there)

all-stay : (wanting : List Bool) (world : World) (n : ℕ) (sender fresh : List ℕ) (place : ℕ) (messages : List Numbered) (host : List ℕ) → Stays host world (all_delivered wanting world n sender fresh place messages).world
all-stay wanting world n sender fresh place [] host there = there
all-stay wanting world n sender fresh place (message ∷ messages) host there =
    all-stay (others_wanting (others_wanting wanting)) (delivered wanting world n sender (fresh_plus fresh place) false message).world n sender fresh (place + 1) messages host
    (given-stays wanting world n sender false message _ host there)

deliver-stays : (wanting : List Bool) (world : World) (n : ℕ) (sender : List ℕ) (m : ℕ) (fresh : List ℕ) (lost : Bool) (host : List ℕ) → Stays host world (deliver wanting world n sender m fresh lost).world
deliver-stays wanting world n sender m fresh lost host there = by_message (message_at world sender m)
  where
    by_message : (o : Option Numbered) → is_there host (option_map_or (delivered wanting world n sender fresh lost) o (nothing world n)).world ≡ true
    by_message None = there
    by_message (Some message) = given-stays wanting world n sender lost message _ host there

pumped-stays : (wanting : List Bool) (world : World) (n : ℕ) (sender fresh : List ℕ) (reply : Reply) (host : List ℕ) → Stays host world (pumped wanting world n sender fresh reply).world
pumped-stays wanting world n sender fresh (replies.Due []) host there = there
pumped-stays wanting world n sender fresh (replies.Due (message ∷ messages)) host there = all-stay wanting world n sender fresh 0 (message ∷ messages) host there
pumped-stays wanting world n sender fresh _ host there = there

pump-stays : (wanting : List Bool) (world : World) (n : ℕ) (sender fresh host : List ℕ) → Stays host world (pump wanting world n sender fresh).world
pump-stays wanting world n sender fresh host there = by_reply (reply_at (next_wanting wanting) world sender asks.Due)
  where
    on : World
    on = asked_at (next_wanting wanting) world sender asks.Due

    by_reply : (o : Option Reply) → is_there host (option_map_or (λ reply. pumped (others_wanting wanting) on n sender fresh reply) o (record { world = world; text = [] })).world ≡ true
    by_reply None = there
    by_reply (Some reply) = pumped-stays (others_wanting wanting) on n sender fresh reply host (asked-stays (next_wanting wanting) world sender asks.Due host there)

-- ---- connections

found-host : (world : World) (at : List ℕ) (server : Server) → server_at world at ≡ Some server → server.host ≡ at
found-host [] at server found = absurd (cc)
found-host (one ∷ others) at server found = by_test (same_text one.host at) refl found (λ e. found-host others at server e)
  where
    by_test : (b : Bool) → same_text one.host at ≡ b → (if b then Some one else server_at others at) ≡ Some server → (server_at others at ≡ Some server → server.host ≡ at) → server.host ≡ at
    by_test true is found rest = ap (λ (o : Option Server). option_map_or (λ (s : Server). s.host) o at) (sym found) ∙ (bytes_eq-Decides one.host at).0 is
    by_test false is found rest = rest found

talked-stays : (world : World) (n : ℕ) (at fresh bytes : List ℕ) (found : Option Server) (line : Run) (host : List ℕ) → server_at world at ≡ found → Talked world n at fresh bytes found line → Stays host world line.world
talked-stays world n at fresh bytes None line host e talked there = subst (λ (r : Run). is_there host r.world ≡ true) (sym talked) there
talked-stays world n at fresh bytes (Some server) line host e talked there =
    let same : talked.0.host ≡ at = ap (λ (s : Server). s.host) talked.2.is_after ∙ same-host server talked.2.calls ∙ found-host world at server e in
    subst (λ (r : Run). is_there host r.world ≡ true) (sym talked.3) (step-stays (λ _. talked.0) world at host (λ s _. same) there)

-- ---- lines

plain-stays : (wanting : Bool) (world : World) (n : ℕ) (e : Event) (at : Option (List ℕ)) (ask : Option Ask) (host : List ℕ) → Stays host world (plain wanting world n e at ask).world
plain-stays wanting world n e (Some at) (Some ask) host there = asked-stays wanting world at ask host there
plain-stays wanting world n e (Some at) None host there = there
plain-stays wanting world n e None ask host there = there

line-stays : (wanting : List Bool) (world : World) (n : ℕ) (e : Event) (host : List ℕ) → Stays host world (run wanting world n e).world
line-stays wanting world n (events.Node at) host there = list_any-append _ world _ ∙ first_true _ _ there
line-stays wanting world n (events.Clock at clock) host there =
    asked-stays (next_wanting wanting) _ at (asks.Tick clock) host (step-stays (λ (s : Server). record s { clock = clock }) world at host (λ s e. e) there)
line-stays wanting world n (events.Deliver at m fresh lost) host there = deliver-stays wanting world n at m fresh lost host there
line-stays wanting world n (events.Pump at fresh) host there = pump-stays wanting world n at fresh host there
line-stays wanting world n (events.Fuse at calls) host there = step-stays (λ (s : Server). record s { fuse = Some calls }) world at host (λ s e. e) there
line-stays wanting world n (events.Crash at left) host there = step-stays (restart left) world at host (λ s e. e) there
line-stays wanting world n e host there = plain-stays (next_wanting wanting) world n e (host_of e) (ask_of e) host there

run-stays : (world : World) (n : ℕ) (e : Event) (line : Run) (host : List ℕ) → IsRun world n e line → Stays host world line.world
run-stays world n (events.Raw at fresh bytes) line host is there = talked-stays world n at fresh bytes (server_at world at) line host refl is there
run-stays world n e line host is there = subst (λ (r : Run). is_there host r.world ≡ true) (sym is.1) (line-stays is.0 world n e host there)

-- a line that makes the server of this host
run-names : (world : World) (n : ℕ) (e : Event) (line : Run) (host : List ℕ) → IsRun world n e line → names host e ≡ true → is_there host line.world ≡ true
run-names world n (events.Node at) line host is named =
    subst (λ (r : Run). is_there host r.world ≡ true) (sym is.1) (list_any-append _ world _ ∙ second_true _ _ (first_true _ false named))
run-names world n e line host is named = absurd (cc)

-- ---- whole scripts

is_run : (world : World) (n : ℕ) (host : List ℕ) (e : Event) (line : Run) (log : List ℕ) → IsLogged world n host e line log → IsRun world n e line
is_run world n host (events.Raw at fresh bytes) line log is = is.0
is_run world n host e line log is = (is.0, is.1)

-- what is logged is logged of a run
pub logged-run : (world final : World) (n : ℕ) (host : List ℕ) (es : List Event) (log : List ℕ) → Logged world n host es log final → (text : List ℕ) × Transcript world n es text final
logged-run world final n host [] log h = ([], (refl, h.1))
logged-run world final n host (e ∷ es) log h =
    let rest = logged-run h.0.world final (n + 1) host es h.2 h.5 in
    (h.0.text ++ rest.0, (h.0, rest.0, is_run world n host e h.0 h.1 h.3, refl, rest.1))

-- a server that was there, or that a line makes, is there at the end
pub there-end : (world final : World) (n : ℕ) (host : List ℕ) (es : List Event) (text : List ℕ) → Transcript world n es text final → (is_there host world ≡ true) ⊎ (list_any (names host) es ≡ true) → is_there host final ≡ true
there-end world final n host [] text h (inl there) = subst (λ w. is_there host w ≡ true) (sym h.1) there
there-end world final n host [] text h (inr named) = absurd (cc)
there-end world final n host (e ∷ es) text h there =
    at_line there (λ from. there-end h.0.world final (n + 1) host es h.1 h.4 from)
  where
    by_line : (b : Bool) → names host e ≡ b → (b || list_any (names host) es) ≡ true → ((is_there host h.0.world ≡ true) ⊎ (list_any (names host) es ≡ true) → is_there host final ≡ true) → is_there host final ≡ true
    by_line true is some rest = rest (inl (run-names world n e h.0 host h.2 is))
    by_line false is some rest = rest (inr some)

    at_line : (is_there host world ≡ true) ⊎ (list_any (names host) (e ∷ es) ≡ true) → ((is_there host h.0.world ≡ true) ⊎ (list_any (names host) es ≡ true) → is_there host final ≡ true) → is_there host final ≡ true
    at_line (inl there) rest = rest (inl (run-stays world n e h.0 host h.2 there))
    at_line (inr named) rest = by_line (names host e) refl named rest
