-- The servers of a host, and what an ask that finds none changes.
use Rattle.std.proofs.Common.{◌≡◌, ℕ, List, [], ◌∷◌, Bool, true, false, Option, Some, None, refl, sym, ◌∙◌, ap, if◌then◌else◌}
use Rattle.std.specs.Option.{option_map_or}
use Rattle.std.specs.Prelude.{option_map, option_and_then, unwrap_or}
use Rattle.ocm_disk.specs.declared.crashes.Crash.{Crash}
use Rattle.ocm_entry.specs.declared.asks.Ask.{Ask}
use Rattle.ocm_rules.specs.Lean.{count}
use Rattle.ocm_rules.specs.Numbers.{same_text}
use Rattle.ocm_script_run.specs.Running.{state_at, state_of}
use Rattle.ocm_script_run.specs.Servers.{Server, World, asked_at, history, message_at, message_of, reply_at, reply_of, restart, server_after, server_at, step_at}
use Rattle.ocm_script_run.specs.Transcript.{kept_at}

none_here : (b : Bool) (server : Server) (found : Option Server) (one : Server) (others after : World) → (found ≡ None → after ≡ others) → (if b then Some server else found) ≡ None → (if b then one ∷ others else server ∷ after) ≡ server ∷ others
none_here true server found one others after rest e = absurd (cc)
none_here false server found one others after rest e = ap (λ (w : World). server ∷ w) (rest e)

-- where no server has the host, nothing changes
pub step-nowhere : (step : Server → Server) (world : World) (host : List ℕ) → server_at world host ≡ None → step_at step world host ≡ world
step-nowhere step [] host none = refl
step-nowhere step (server ∷ others) host none =
    none_here (same_text server.host host) server (server_at others host) (step server) others (step_at step others host) (λ e. step-nowhere step others host e) none

pub asked-nowhere : (wanting : Bool) (world : World) (host : List ℕ) (ask : Ask) → server_at world host ≡ None → asked_at wanting world host ask ≡ world
asked-nowhere wanting world host ask none = step-nowhere (λ server. server_after wanting server ask) world host none

no_reply : (wanting : Bool) (world : World) (host : List ℕ) (ask : Ask) (found : Option Server) → found ≡ server_at world host → None ≡ option_map (λ server. reply_of wanting server ask) found → server_at world host ≡ None
no_reply wanting world host ask None e none = sym e
no_reply wanting world host ask (Some server) e none = absurd (cc)

pub asked-unanswered : (wanting : Bool) (world : World) (host : List ℕ) (ask : Ask) → None ≡ reply_at wanting world host ask → asked_at wanting world host ask ≡ world
asked-unanswered wanting world host ask none = asked-nowhere wanting world host ask (no_reply wanting world host ask (server_at world host) refl none)

pub message-found : (server : Server) (world : World) (host : List ℕ) (m : ℕ) → server_at world host ≡ Some server → message_of server m ≡ message_at world host m
message-found server world host m there = sym (ap (λ (found : Option Server). option_and_then (λ (s : Server). message_of s m) found) there)

pub message-nowhere : (world : World) (host : List ℕ) (m : ℕ) → server_at world host ≡ None → None ≡ message_at world host m
message-nowhere world host m none = sym (ap (λ (found : Option Server). option_and_then (λ (s : Server). message_of s m) found) none)

-- how many entries a server keeps after a crash is told of the one of this host
pub kept-found : (left : Crash) (world : World) (host : List ℕ) (server : Server) (number : ℕ) → number ≡ count (restart left server).host (history (restart left server))
    → server_at world host ≡ Some server → Some number ≡ kept_at left world host
kept-found left world host server number is there =
    ap Some is ∙ sym (ap (option_map (λ (s : Server). count s.host (history (restart left s)))) there)

-- how many entries a server keeps and its moment are told of the one of this host
pub state-found : (server : Server) (world : World) (host : List ℕ) → server_at world host ≡ Some server → Some (state_of server) ≡ state_at world host
state-found server world host there = sym (ap (option_map state_of) there)

pub state-nowhere : (world : World) (host : List ℕ) → server_at world host ≡ None → None ≡ state_at world host
state-nowhere world host none = sym (ap (option_map state_of) none)

-- and the other way round
pub state-there : (found : Option Server) (state : ℕ × ℕ) → Some state ≡ option_map state_of found → (server : Server) × (found ≡ Some server) × (state ≡ state_of server)
state-there None state e = absurd (cc)
state-there (Some server) state e = (server, refl, ap (λ o. unwrap_or o state) e)

pub state-none : (found : Option Server) → None ≡ option_map state_of found → found ≡ None
state-none None e = refl
state-none (Some server) e = absurd (cc)

-- how many entries it keeps, by the same
pub kept-there : (found : Option Server) (state : ℕ × ℕ) → Some state ≡ option_map state_of found → state.0 ≡ option_map_or (λ server. count server.host (history server)) found 0
kept-there None state e = absurd (cc)
kept-there (Some server) state e = ap (λ o. (unwrap_or o state).0) e

pub kept-none : (found : Option Server) → None ≡ option_map state_of found → 0 ≡ option_map_or (λ server. count server.host (history server)) found 0
kept-none None e = refl
kept-none (Some server) e = absurd (cc)
