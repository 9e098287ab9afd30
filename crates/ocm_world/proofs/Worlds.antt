-- The server of a host, by its place.
use Rattle.std.proofs.Common.{◌≡◌, ◌<◌, ◌≤◌, ℕ, zero, suc, List, [], ◌∷◌, ◌++◌, length, get_or, set, Bool, true, false, Some, None, refl, sym, ◌∙◌, ap, subst, arith, if◌then◌else◌, position}
use Rattle.std.specs.Prelude.{option_map}
use Rattle.std.specs.List.{insert, position_or_len, remove}
use Rattle.std.proofs.lemmas.List.Quantifiers.{position-Some}
use Rattle.std.proofs.lemmas.List.Sums.{fails_before_first}
use Rattle.ocm_entry.specs.declared.asks.Ask.{Ask}
use Rattle.ocm_entry.specs.declared.replies.Reply.{Reply}
use Rattle.ocm_rules.specs.Numbers.{same_text}
use Rattle.ocm_world.specs.declared.nodes.RunningServer.{RunningServer}
use Rattle.ocm_script_run.specs.Servers.{Server, World, reply_of, server_after, server_at, step_at}
use Rattle.ocm_script_run.specs.Running.{Asks}
use Rattle.ocm_script_run.proofs.Worlds.{asked-nowhere, step-nowhere}
use Rattle.ocm_world.specs.Running.{AreOf, IsOf, is_at}

-- the server at this place is the first of this host
record IsFirst (host : List ℕ) (all : List RunningServer) (at : ℕ) (d : RunningServer) : Type 0 where
  pub within : at < length all
  pub here : is_at host (get_or all at d) ≡ true
  pub before : (k : ℕ) → k < at → is_at host (get_or all k d) ≡ false

-- the server of this host is the one at this place
pub record FoundAt (host : List ℕ) (all : List RunningServer) (world : World) (at : ℕ) (d : RunningServer) : Type 0 where
  pub server : Server
  pub there : server_at world host ≡ Some server
  pub of : IsOf (get_or all at d) server
  pub stepped : (new : RunningServer) (step : Server → Server) → IsOf new (step server) → AreOf (set all at new) (step_at step world host)

behind : (host : List ℕ) (node : RunningServer) (all : List RunningServer) (at : ℕ) (d : RunningServer) → IsFirst host (node ∷ all) (suc at) d → IsFirst host all at d
behind host node all at d first = record {
  within = omega (arith, first.within);
  here = first.here;
  before = λ k h. first.before (suc k) (omega (arith, h));
}

found : (host : List ℕ) (all : List RunningServer) (world : World) (at : ℕ) (d : RunningServer) → AreOf all world → IsFirst host all at d → FoundAt host all world at d
found host [] world at d are first = absurd (let w = first.within in omega (arith, w))
found host (node ∷ more) [] at d are first = absurd are
found host (node ∷ more) (server ∷ others) zero d are first =
    let same : same_text server.host host ≡ true = ap (λ h. same_text h host) (sym are.0.host) ∙ first.here in
    record {
      server = server;
      there = ap (λ (b : Bool). if b then Some server else server_at others host) same;
      of = are.0;
      stepped = λ new step is.
          let P : Bool → Type 0 = λ b. AreOf (new ∷ more) (if b then step server ∷ others else server ∷ step_at step others host) in
          subst P (sym same) (is, are.1);
    }
found host (node ∷ more) (server ∷ others) (suc at) d are first =
    let rest = found host more others at d are.1 (behind host node more at d first) in
    let other : same_text server.host host ≡ false = ap (λ h. same_text h host) (sym are.0.host) ∙ first.before zero (omega arith) in
    record {
      server = rest.server;
      there = ap (λ (b : Bool). if b then Some server else server_at others host) other ∙ rest.there;
      of = rest.of;
      stepped = λ new step is.
          let P : Bool → Type 0 = λ b. AreOf (node ∷ set more at new) (if b then step server ∷ others else server ∷ step_at step others host) in
          subst P (sym other) (are.0, rest.stepped new step is);
    }

pub found_at : (host : List ℕ) (all : List RunningServer) (world : World) (at : ℕ) (d : RunningServer) → AreOf all world → position (is_at host) all ≡ Some at → FoundAt host all world at d
found_at host all world at d are e =
    let first = position-Some (is_at host) all at d e in
    found host all world at d are (record { within = first.0; here = first.1; before = first.2 })

nowhere : (host : List ℕ) (all : List RunningServer) (world : World) → AreOf all world → ((k : ℕ) (d : RunningServer) → k < length all → is_at host (get_or all k d) ≡ false) → server_at world host ≡ None
nowhere host [] [] are none = refl
nowhere host [] (server ∷ others) are none = absurd are
nowhere host (node ∷ more) [] are none = absurd are
nowhere host (node ∷ more) (server ∷ others) are none =
    let other : same_text server.host host ≡ false = ap (λ h. same_text h host) (sym are.0.host) ∙ none zero node (omega arith) in
    ap (λ (b : Bool). if b then Some server else server_at others host) other ∙ nowhere host more others are.1 (λ k d h. none (suc k) d (omega (arith, h)))

past : {X : Type 0} (p : X → Bool) (xs : List X) → position p xs ≡ None → length xs ≤ position_or_len p xs
past p xs none = grind (arith, none)

pub found_nowhere : (host : List ℕ) (all : List RunningServer) (world : World) → AreOf all world → position (is_at host) all ≡ None → server_at world host ≡ None
found_nowhere host all world are none =
    let le = past (is_at host) all none in
    nowhere host all world are (λ k d h. fails_before_first (is_at host) all k d (omega (arith, h, le)))

-- a server answered
pub Asks-found : (host : List ℕ) (all : List RunningServer) (world : World) (at : ℕ) (d new : RunningServer) (ask : Ask) (reply : Reply) (here : FoundAt host all world at d)
    → (wanting : Bool) × (reply ≡ reply_of wanting here.server ask) × IsOf new (server_after wanting here.server ask) → Asks AreOf world (set all at new) host ask (Some reply)
Asks-found host all world at d new ask reply here acted = (
  acted.0,
  ap Some acted.1 ∙ sym (ap (option_map (λ server. reply_of acted.0 server ask)) here.there),
  here.stepped new (λ server. server_after acted.0 server ask) acted.2,
)

-- there is none
pub Asks-nowhere : (host : List ℕ) (all : List RunningServer) (world : World) (ask : Ask) → AreOf all world → server_at world host ≡ None → Asks AreOf world all host ask None
Asks-nowhere host all world ask are none = (
  false,
  sym (ap (option_map (λ server. reply_of false server ask)) none),
  subst (AreOf all) (sym (asked-nowhere false world host ask none)) are,
)

-- one more server
pub AreOf-more : (all : List RunningServer) (world : World) (node : RunningServer) (server : Server) → AreOf all world → IsOf node server → AreOf (all ++ node ∷ []) (world ++ server ∷ [])
AreOf-more [] [] node server are is = (is, tt)
AreOf-more [] (s ∷ others) node server are is = absurd are
AreOf-more (t ∷ more) [] node server are is = absurd are
AreOf-more (t ∷ more) (s ∷ others) node server are is = (are.0, AreOf-more more others node server are.1 is)

-- ---- steps

-- no server has the host, so nothing changes
pub AreOf-nowhere : (step : Server → Server) (host : List ℕ) (all : List RunningServer) (world : World) → AreOf all world → position (is_at host) all ≡ None → AreOf all (step_at step world host)
AreOf-nowhere step host all world are none = subst (AreOf all) (sym (step-nowhere step world host (found_nowhere host all world are none))) are

-- taken out and put in again
pub put_again : (all : List RunningServer) (at : ℕ) (new : RunningServer) → at < length all → insert (remove all at) at new ≡ set all at new
put_again [] at new lt = absurd (omega (arith, lt))
put_again (node ∷ more) zero new lt = refl
put_again (node ∷ more) (suc at) new lt = ap (λ l. node ∷ l) (put_again more at new (omega (arith, lt)))

pub found-within : (host : List ℕ) (all : List RunningServer) (at : ℕ) (d : RunningServer) → position (is_at host) all ≡ Some at → at < length all
found-within host all at d e = (position-Some (is_at host) all at d e).0
