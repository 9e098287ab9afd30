-- A world that stands for servers, and what stays so after a step of one of them.
use Rattle.std.proofs.Common.{◌≡◌, ℕ, List, Bool, true, false, refl, sym, ap, ◌∙◌, subst}
use Rattle.std.specs.Prelude.{Option, Some, None, option_map, if◌then◌else◌}
use Rattle.ocm_rules.specs.Numbers.{same_text}
use Rattle.ocm_law_world.specs.World.{Answer, Run, World, changed, empty}
use Rattle.ocm_law_world.specs.World.Run.{Stays, Goes_on}
use Rattle.ocm_law_world.proofs.Texts.{text-equal, text-same}
use Rattle.ocm_script_run.specs.Servers.{Server, server_at, step_at}
use Rattle.ocm_law_runs.specs.Standing.{Stands, session_of}
use Rattle.ocm_law_runs.proofs.Finding.{Keeps, has-host, stepped-here, stepped-other}

-- ---- runs

-- a run reaches a world, where no host is foreign
abbrev pub IsAlone : World → Type 0
IsAlone w = Run empty w

-- a run leads from a world to one with a property
abbrev pub Reaches : World → (World → Type 0) → Type 0
Reaches w P = (later : World) × Run w later × P later

pub stays : (P : World → Type 0) (w : World) → P w → Reaches w P
stays P w p = (w, Stays, p)

pub run-on : (first w later : World) → Run first w → Run w later → Run first later
run-on first w _ run Stays = run
run-on first w _ run (Goes_on mid next more step) = Goes_on mid next (run-on first w mid run more) step

pub reaches-on : (P Q : World → Type 0) (w : World) → Reaches w P → ((mid : World) → Run w mid → P mid → Reaches mid Q) → Reaches w Q
reaches-on P Q w (mid, run, p) more =
    let further = more mid run p in
    (further.0, run-on w mid further.0 run further.1, further.2)

-- ---- one server in the place of another

-- a world has the sessions of the servers of all other hosts
abbrev pub Others : World → List Server → List ℕ → Type 0
Others w servers host = (other : List ℕ) → same_text other host ≡ false → w.session other ≡ option_map session_of (server_at servers other)

-- a world has the session of this server, which has this host, and those of the servers of all others
pub record With (servers : List Server) (host : List ℕ) (server : Server) (w : World) : Type 0 where
  pub own : server.host ≡ host
  pub here : w.session host ≡ Some (session_of server)
  pub others : Others w servers host

pub with-server : (w : World) (servers : List Server) (host : List ℕ) (server : Server) → Stands w servers → server_at servers host ≡ Some server → With servers host server w
with-server w servers host server stands there = record {
  own = has-host servers host server there;
  here = stands host ∙ ap (option_map session_of) there;
  others = λ other far. stands other;
}

-- the server of a host, and all others after its step
pub stands-at : (w : World) (servers : List Server) (host : List ℕ) (step : Server → Server) → Keeps step host → w.session host ≡ option_map session_of (option_map step (server_at servers host))
    → Others w servers host → Stands w (step_at step servers host)
stands-at w servers host step keeps here others other = by_test (same_text other host) refl
  where
    by_test : (b : Bool) → same_text other host ≡ b → w.session other ≡ option_map session_of (server_at (step_at step servers host) other)
    by_test true e =
        let P : List ℕ → Type 0 = λ x. w.session x ≡ option_map session_of (server_at (step_at step servers host) x) in
        subst P (sym (text-equal other host e)) (here ∙ sym (ap (option_map session_of) (stepped-here step servers host keeps)))
    by_test false e = others other e ∙ sym (ap (option_map session_of) (stepped-other step servers host other keeps e))

-- after a step to this server
pub with-stands : (w : World) (servers : List Server) (host : List ℕ) (step : Server → Server) (server : Server) → Keeps step host → server_at servers host ≡ Some server
    → With servers host (step server) w → Stands w (step_at step servers host)
with-stands w servers host step server keeps there with =
    stands-at w servers host step keeps (with.here ∙ sym (ap (λ o. option_map session_of (option_map step o)) there)) with.others

-- where no server has the host
pub stands-nowhere : (w : World) (servers : List Server) (host : List ℕ) (step : Server → Server) → Keeps step host → server_at servers host ≡ None → Stands w servers → Stands w (step_at step servers host)
stands-nowhere w servers host step keeps none stands =
    stands-at w servers host step keeps (stands host ∙ ap (option_map session_of) none ∙ sym (ap (λ o. option_map session_of (option_map step o)) none)) (λ other far. stands other)

-- after a step that leaves each session as it is
pub stands-same : (w : World) (servers : List Server) (host : List ℕ) (step : Server → Server) → Keeps step host → ((server : Server) → session_of (step server) ≡ session_of server)
    → Stands w servers → Stands w (step_at step servers host)
stands-same w servers host step keeps same stands = stands-at w servers host step keeps (stands host ∙ by_case (server_at servers host)) (λ other far. stands other)
  where
    by_case : (o : Option Server) → option_map session_of o ≡ option_map session_of (option_map step o)
    by_case None = refl
    by_case (Some server) = ap Some (sym (same server))

-- a world with another session of the host
pub with-changed : (w : World) (servers : List Server) (host : List ℕ) (next : Server) (answers : List Answer) → next.host ≡ host → Others w servers host
    → With servers host next (changed w host (session_of next) answers)
with-changed w servers host next answers own others = record {
  own = own;
  here = ap (λ (b : Bool). if b then Some (session_of next) else w.session host) (text-same host);
  others = λ other far. ap (λ (b : Bool). if b then Some (session_of next) else w.session other) far ∙ others other far;
}
