-- What stays true of the server of a host over each line of a run.
use Rattle.std.proofs.Common.{◌≡◌, ℕ, ◌+◌, List, [], ◌∷◌, ◌++◌, Bool, true, false, cond, Option, Some, None, refl, sym, ap, subst, ◌∙◌}
use Rattle.std.specs.Prelude.{◌⊎◌}
use Rattle.std.specs.Option.{option_map_or}
use mathlib.Core.Logic.{inl, inr}
use Rattle.ocm_types.specs.Draws.{fresh_plus}
use Rattle.ocm_types.specs.declared.letters.Numbered.{Numbered}
use Rattle.ocm_entry.specs.declared.asks.Ask.{Ask}
use Rattle.ocm_entry.specs.declared.asks.Ask.TheVariants.{Due, Tick}
use Rattle.ocm_entry.specs.declared.entries.Entry.{Entry}
use Rattle.ocm_entry.specs.declared.replies.Reply.{Reply}
use Rattle.ocm_entry.specs.declared.replies.Reply.TheVariants as replies
use Rattle.ocm_rules.specs.Numbers.{same_text}
use Rattle.ocm_script.specs.declared.events.Event.{Event}
use Rattle.ocm_script.specs.declared.events.Event.TheVariants as events
use Rattle.ocm_script.specs.Events.{host_of}
use Rattle.ocm_entry.specs.Deliveries.{letter_ask}
use Rattle.ocm_script_run.specs.Asked.{ask_of}
use Rattle.ocm_script_run.specs.Servers.{Server, World, new_server, reply_at, message_at, server_after, server_at, step_at, asked_at, crashed, is_kept, restart, with_call}
use Rattle.ocm_script_run.specs.Deliveries.{Run, next_wanting, others_wanting, settlement, answered, given, unreachable, delivered, all_delivered, nothing, pumped, pump, deliver}
use Rattle.ocm_script_run.specs.Talks.{Replies, after_calls}
use Rattle.ocm_script_run.specs.Transcript.{Talked, named, clocked, plain, run}
use Rattle.ocm_script_run.specs.Traces.{IsLogged}

-- it holds of a server, and this where there is none
abbrev pub HasIn : Type 0 → (Server → Type 0) → Option Server → Type 0
HasIn Q P None = Q
HasIn Q P (Some server) = P server

-- it holds of the server of a host, and this where there is none
abbrev pub Has : Type 0 → (Server → Type 0) → List ℕ → World → Type 0
Has Q P host world = HasIn Q P (server_at world host)

-- it stays true of a server over each ask and each line that is none, by which it may be told the time, and its disk be
-- bounded, or crash
pub record Stays (P : Server → Type 0) : Type 0 where
  pub asked : (wanting : Bool) (server : Server) (ask : Ask) → P server → P (server_after wanting server ask)
  pub clocked : (server : Server) (clock : ℕ) → P server → P (record server { clock = clock })
  pub fused : (server : Server) (calls : ℕ) → P server → P (record server { fuse = Some calls })
  pub crashed : (keeps : Bool) (server : Server) → P server → P (crashed keeps server)

-- it is true of a server that this line makes, where there is none of this host
abbrev pub IsMade : (Server → Type 0) → List ℕ → World → Event → Type 0
IsMade P host world e = (at : List ℕ) → e ≡ events.Node at → server_at world host ≡ None → P (new_server at)

-- ---- a step of one server

-- the server of a host after a step at a host: what it was, or, at the same server, that after the step
abbrev IsStepped : (Server → Server) → World → List ℕ → Server → Option Server → Type 0
IsStepped step world at server after = (next : Server) × (after ≡ Some next) × ((next ≡ server) ⊎ ((next ≡ step server) × (server_at world at ≡ Some server)))

-- a step leaves the host of the server that it changes
abbrev LeavesHost : (Server → Server) → Option Server → Type 0
LeavesHost step found = (server : Server) → found ≡ Some server → (step server).host ≡ server.host

some_is : (x y : Server) → Some x ≡ Some y → x ≡ y
some_is x y e = cc

stepped-first : (step : Server → Server) (x : Server) (others : World) (at host : List ℕ) (server : Server) (a b : Bool)
    → same_text x.host at ≡ a → same_text x.host host ≡ b → LeavesHost step (cond a (Some x) (server_at others at))
    → (a ≡ false → server_at others host ≡ Some server → IsStepped step others at server (server_at (step_at step others at) host))
    → cond b (Some x) (server_at others host) ≡ Some server
    → (next : Server) × (server_at (cond a (step x ∷ others) (x ∷ step_at step others at)) host ≡ Some next) × ((next ≡ server) ⊎ ((next ≡ step server) × (cond a (Some x) (server_at others at) ≡ Some server)))
stepped-first step x others at host server true true is_at is_host leaves later e =
    (step x, ap (λ (t : Bool). cond t (Some (step x)) (server_at others host)) (ap (λ (h : List ℕ). same_text h host) (leaves x refl) ∙ is_host), inr (ap step (some_is x server e), e))
stepped-first step x others at host server true false is_at is_host leaves later e =
    (server, ap (λ (t : Bool). cond t (Some (step x)) (server_at others host)) (ap (λ (h : List ℕ). same_text h host) (leaves x refl) ∙ is_host) ∙ e, inl refl)
stepped-first step x others at host server false true is_at is_host leaves later e =
    (x, ap (λ (t : Bool). cond t (Some x) (server_at (step_at step others at) host)) is_host, inl (some_is x server e))
stepped-first step x others at host server false false is_at is_host leaves later e =
    let rest = later refl e in
    (rest.0, ap (λ (t : Bool). cond t (Some x) (server_at (step_at step others at) host)) is_host ∙ rest.1, rest.2)

stepped : (step : Server → Server) (world : World) (at host : List ℕ) (server : Server) → LeavesHost step (server_at world at) → server_at world host ≡ Some server → IsStepped step world at server (server_at (step_at step world at) host)
stepped step [] at host server leaves e = absurd cc
stepped step (x ∷ others) at host server leaves e =
    stepped-first step x others at host server (same_text x.host at) (same_text x.host host) refl refl leaves
    (λ other there. stepped step others at host server (λ found is. leaves found (ap (λ (t : Bool). cond t (Some x) (server_at others at)) other ∙ is)) there)
    e

-- where there is no server, a step makes none
unstepped-first : (step : Server → Server) (x : Server) (others : World) (at host : List ℕ) (a b : Bool)
    → same_text x.host at ≡ a → same_text x.host host ≡ b → LeavesHost step (cond a (Some x) (server_at others at))
    → (a ≡ false → server_at others host ≡ None → server_at (step_at step others at) host ≡ None)
    → cond b (Some x) (server_at others host) ≡ None → server_at (cond a (step x ∷ others) (x ∷ step_at step others at)) host ≡ None
unstepped-first step x others at host a true is_at is_host leaves later e = absurd cc
unstepped-first step x others at host true false is_at is_host leaves later e =
    ap (λ (t : Bool). cond t (Some (step x)) (server_at others host)) (ap (λ (h : List ℕ). same_text h host) (leaves x refl) ∙ is_host) ∙ e
unstepped-first step x others at host false false is_at is_host leaves later e = ap (λ (t : Bool). cond t (Some x) (server_at (step_at step others at) host)) is_host ∙ later refl e

unstepped : (step : Server → Server) (world : World) (at host : List ℕ) → LeavesHost step (server_at world at) → server_at world host ≡ None → server_at (step_at step world at) host ≡ None
unstepped step [] at host leaves e = refl
unstepped step (x ∷ others) at host leaves e =
    unstepped-first step x others at host (same_text x.host at) (same_text x.host host) refl refl leaves
    (λ other none. unstepped step others at host (λ found is. leaves found (ap (λ (t : Bool). cond t (Some x) (server_at others at)) other ∙ is)) none)
    e

-- what a step leaves true of its own server stays true
kept-step : (Q : Type 0) (P : Server → Type 0) (step : Server → Server) (world : World) (at host : List ℕ) → LeavesHost step (server_at world at)
    → ((server : Server) → server_at world at ≡ Some server → server_at world host ≡ Some server → P server → P (step server)) → Has Q P host world → Has Q P host (step_at step world at)
kept-step Q P step world at host leaves keeps has = by (server_at world host) refl has
  where
    by : (o : Option Server) → server_at world host ≡ o → HasIn Q P o → Has Q P host (step_at step world at)
    by None none has = subst (HasIn Q P) (sym (unstepped step world at host leaves none)) has
    by (Some server) there has =
        let after = stepped step world at host server leaves there in
        let holds : P after.0 =
        elim after.2 [
          | inl same ↦ subst P (sym same) has
          | inr new ↦ subst P (sym new.0) (keeps server new.1 there has)
        ] in
        subst (HasIn Q P) (sym after.1) holds

-- ---- each kind of line

kept-asked : (Q : Type 0) (P : Server → Type 0) → Stays P → (wanting : Bool) (world : World) (at host : List ℕ) (ask : Ask) → Has Q P host world → Has Q P host (asked_at wanting world at ask)
kept-asked Q P stays wanting world at host ask has = kept-step Q P (λ (s : Server). server_after wanting s ask) world at host (λ _ _. refl) (λ s _ _ h. stays.asked wanting s ask h) has

-- a server behind others is found where none of them is
added : (Q : Type 0) (P : Server → Type 0) (world : World) (at host : List ℕ) → (server_at world host ≡ None → P (new_server at)) → Has Q P host world → Has Q P host (world ++ new_server at ∷ [])
added Q P [] at host made has = last (same_text at host)
  where
    last : (b : Bool) → HasIn Q P (cond b (Some (new_server at)) None)
    last true = made refl
    last false = has
added Q P (x ∷ others) at host made has = first (same_text x.host host) (added Q P others at host) made has
  where
    first : (b : Bool) → ((server_at others host ≡ None → P (new_server at)) → Has Q P host others → Has Q P host (others ++ new_server at ∷ []))
        → (cond b (Some x) (server_at others host) ≡ None → P (new_server at)) → HasIn Q P (cond b (Some x) (server_at others host)) → HasIn Q P (cond b (Some x) (server_at (others ++ new_server at ∷ []) host))
    first true later made has = has
    first false later made has = later made has

kept-named : (Q : Type 0) (P : Server → Type 0) (world : World) (number : ℕ) (at host : List ℕ) → (server_at world host ≡ None → P (new_server at)) → Has Q P host world → Has Q P host (named world number at).world
kept-named Q P world number at host made has = added Q P world at host made has

kept-clocked : (Q : Type 0) (P : Server → Type 0) → Stays P → (wanting : Bool) (world : World) (number : ℕ) (at host : List ℕ) (clock : ℕ) → Has Q P host world → Has Q P host (clocked wanting world number at clock).world
kept-clocked Q P stays wanting world number at host clock has =
    kept-asked Q P stays wanting (step_at (λ (s : Server). record s { clock = clock }) world at) at host (Tick clock)
    (kept-step Q P (λ (s : Server). record s { clock = clock }) world at host (λ _ _. refl) (λ s _ _ h. stays.clocked s clock h) has)

kept-plain : (Q : Type 0) (P : Server → Type 0) → Stays P → (wanting : Bool) (world : World) (number : ℕ) (e : Event) (host : List ℕ) (at : Option (List ℕ)) (ask : Option Ask) → Has Q P host world → Has Q P host (plain wanting world number e at ask).world
kept-plain Q P stays wanting world number e host (Some at) (Some ask) has = kept-asked Q P stays wanting world at host ask has
kept-plain Q P stays wanting world number e host (Some at) None has = has
kept-plain Q P stays wanting world number e host None (Some ask) has = has
kept-plain Q P stays wanting world number e host None None has = has

-- ---- messages

kept-answered : (Q : Type 0) (P : Server → Type 0) → Stays P → (wanting : Bool) (world : World) (number : ℕ) (sender : List ℕ) (lost : Bool) (message : Numbered) (reply : Reply) (host : List ℕ) → Has Q P host world → Has Q P host (answered wanting world number sender lost message reply).world
kept-answered Q P stays wanting world number sender true message reply host has = has
kept-answered Q P stays wanting world number sender false message reply host has = kept-asked Q P stays wanting world sender host (settlement message.number reply) has

kept-given : (Q : Type 0) (P : Server → Type 0) → Stays P → (wanting : List Bool) (world : World) (number : ℕ) (sender : List ℕ) (lost : Bool) (message : Numbered) (ask : Ask) (host : List ℕ) → Has Q P host world → Has Q P host (given wanting world number sender lost message ask).world
kept-given Q P stays wanting world number sender lost message ask host has = by (reply_at (next_wanting wanting) world message.to ask)
  where
    asked : World
    asked = asked_at (next_wanting wanting) world message.to ask

    back : Reply → Run
    back reply = answered (next_wanting (others_wanting wanting)) asked number sender lost message reply

    by : (o : Option Reply) → Has Q P host (option_map_or back o (unreachable world number message.to)).world
    by None = has
    by (Some reply) = kept-answered Q P stays (next_wanting (others_wanting wanting)) asked number sender lost message reply host (kept-asked Q P stays (next_wanting wanting) world message.to host ask has)

kept-deliver : (Q : Type 0) (P : Server → Type 0) → Stays P → (wanting : List Bool) (world : World) (number : ℕ) (sender : List ℕ) (m : ℕ) (fresh : List ℕ) (lost : Bool) (host : List ℕ) → Has Q P host world → Has Q P host (deliver wanting world number sender m fresh lost).world
kept-deliver Q P stays wanting world number sender m fresh lost host has = by (message_at world sender m)
  where
    by : (o : Option Numbered) → Has Q P host (option_map_or (delivered wanting world number sender fresh lost) o (nothing world number)).world
    by None = has
    by (Some message) = kept-given Q P stays wanting world number sender lost message (letter_ask message.letter fresh) host has

kept-all : (Q : Type 0) (P : Server → Type 0) → Stays P → (wanting : List Bool) (world : World) (number : ℕ) (sender fresh : List ℕ) (place : ℕ) (messages : List Numbered) (host : List ℕ) → Has Q P host world → Has Q P host (all_delivered wanting world number sender fresh place messages).world
kept-all Q P stays wanting world number sender fresh place [] host has = has
kept-all Q P stays wanting world number sender fresh place (message ∷ messages) host has =
    let first = (delivered wanting world number sender (fresh_plus fresh place) false message).world in
    kept-all Q P stays (others_wanting (others_wanting wanting)) first number sender fresh (place + 1) messages host
    (kept-given Q P stays wanting world number sender false message (letter_ask message.letter (fresh_plus fresh place)) host has)

kept-pumped : (Q : Type 0) (P : Server → Type 0) → Stays P → (wanting : List Bool) (world : World) (number : ℕ) (sender fresh : List ℕ) (reply : Reply) (host : List ℕ) → Has Q P host world → Has Q P host (pumped wanting world number sender fresh reply).world
kept-pumped Q P stays wanting world number sender fresh (replies.Due []) host has = has
kept-pumped Q P stays wanting world number sender fresh (replies.Due (message ∷ messages)) host has = kept-all Q P stays wanting world number sender fresh 0 (message ∷ messages) host has
kept-pumped Q P stays wanting world number sender fresh _ host has = has

kept-pump : (Q : Type 0) (P : Server → Type 0) → Stays P → (wanting : List Bool) (world : World) (number : ℕ) (sender fresh host : List ℕ) → Has Q P host world → Has Q P host (pump wanting world number sender fresh).world
kept-pump Q P stays wanting world number sender fresh host has = by (reply_at (next_wanting wanting) world sender Due)
  where
    asked : World
    asked = asked_at (next_wanting wanting) world sender Due

    told : Reply → Run
    told reply = pumped (others_wanting wanting) asked number sender fresh reply

    by : (o : Option Reply) → Has Q P host (option_map_or told o (record { world = world; text = [] })).world
    by None = has
    by (Some reply) = kept-pumped Q P stays (others_wanting wanting) asked number sender fresh reply host (kept-asked Q P stays (next_wanting wanting) world sender host Due has)

-- ---- connections

-- a server after asks has its host, and what stays true of it is true
abbrev Goes : (Server → Type 0) → Server → Server → Type 0
Goes P server after = (after.host ≡ server.host) × (P server → P after)

goes-calls : (P : Server → Type 0) → Stays P → (server : Server) (calls : List Entry) → Replies server calls → Goes P server (after_calls server calls)
goes-calls P stays server [] made = (refl, λ h. h)
goes-calls P stays server (call ∷ older) (made, wanting, is) =
    let before = goes-calls P stays server older made in
    (before.0, λ h. subst (λ (r : Reply). P (with_call (after_calls server older) call.ask r)) (sym is) (stays.asked wanting (after_calls server older) call.ask (before.1 h)))

is_after : (P : Server → Type 0) (server after mid : Server) → after ≡ mid → Goes P server mid → Goes P server after
is_after P server after mid same goes = subst (λ (s : Server). Goes P server s) (sym same) goes

kept-talked : (Q : Type 0) (P : Server → Type 0) → Stays P → (world : World) (number : ℕ) (at fresh bytes : List ℕ) (line : Run) (host : List ℕ) → Talked world number at fresh bytes (server_at world at) line → Has Q P host world → Has Q P host line.world
kept-talked Q P stays world number at fresh bytes line host talked has = by (server_at world at) refl talked
  where
    by : (o : Option Server) → server_at world at ≡ o → Talked world number at fresh bytes o line → Has Q P host line.world
    by None there is = subst (λ (l : Run). Has Q P host l.world) (sym is) has
    by (Some server) there is =
        let goes = is_after P server is.0 (after_calls server is.2.calls) is.2.is_after (goes-calls P stays server is.2.calls is.2.replies) in
        let own : (found : Server) → server_at world at ≡ Some found → server ≡ found = λ found here. some_is server found (sym there ∙ here) in
        subst (λ (l : Run). Has Q P host l.world) (sym is.3)
        (kept-step Q P (λ (s : Server). is.0) world at host
        (λ found here. goes.0 ∙ ap (λ (s : Server). s.host) (own found here))
        (λ found here _ h. goes.1 (subst P (sym (own found here)) h))
        has)

-- ---- each line

kept-run : (Q : Type 0) (P : Server → Type 0) → Stays P → (wanting : List Bool) (world : World) (number : ℕ) (e : Event) (host : List ℕ) → IsMade P host world e → Has Q P host world → Has Q P host (run wanting world number e).world
kept-run Q P stays wanting world number (events.Node at) host made has = kept-named Q P world number at host (λ none. made at refl none) has
kept-run Q P stays wanting world number (events.Clock at clock) host made has = kept-clocked Q P stays (next_wanting wanting) world number at host clock has
kept-run Q P stays wanting world number (events.Deliver at m fresh lost) host made has = kept-deliver Q P stays wanting world number at m fresh lost host has
kept-run Q P stays wanting world number (events.Pump at fresh) host made has = kept-pump Q P stays wanting world number at fresh host has
kept-run Q P stays wanting world number (events.Fuse at calls) host made has = kept-step Q P (λ (s : Server). record s { fuse = Some calls }) world at host (λ _ _. refl) (λ s _ _ h. stays.fused s calls h) has
kept-run Q P stays wanting world number (events.Crash at left) host made has = kept-step Q P (restart left) world at host (λ _ _. refl) (λ s _ _ h. stays.crashed (is_kept left s.cut) s h) has
kept-run Q P stays wanting world number e host made has = kept-plain Q P stays (next_wanting wanting) world number e host (host_of e) (ask_of e) has

-- what stays true of a server over each ask, and over this line, holds after the line
pub kept-line : (Q : Type 0) (P : Server → Type 0) → Stays P → (world : World) (number : ℕ) (host : List ℕ) (e : Event) (line : Run) (log : List ℕ) → IsLogged world number host e line log → IsMade P host world e → Has Q P host world → Has Q P host line.world
kept-line Q P stays world number host (events.Raw at fresh bytes) line log is made has = kept-talked Q P stays world number at fresh bytes line host is.0 has
kept-line Q P stays world number host e line log is made has = subst (λ (l : Run). Has Q P host l.world) (sym is.1) (kept-run Q P stays is.0 world number e host made has)
