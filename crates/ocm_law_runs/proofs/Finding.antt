-- The server of a host, before and after a step.
use Rattle.std.proofs.Common.{◌≡◌, ℕ, List, [], ◌∷◌, ◌++◌, Bool, true, false, refl, sym, ap, ◌∙◌, subst}
use Rattle.std.specs.Prelude.{Option, Some, None, option_map, if◌then◌else◌}
use Rattle.std.specs.Option.{option_or}
use Rattle.ocm_rules.specs.Numbers.{same_text}
use Rattle.ocm_rules.proofs.Lists.{not_both}
use Rattle.ocm_rules.proofs.Searches.{some-same}
use Rattle.ocm_law_world.proofs.Texts.{text-equal, text-same}
use Rattle.ocm_script_run.specs.Servers.{Server, new_server, server_at, step_at}

-- ---- hosts

pub text-other : (a b : List ℕ) → same_text a b ≡ false → same_text b a ≡ false
text-other a b far = by_test (same_text b a) refl
  where
    by_test : (c : Bool) → same_text b a ≡ c → c ≡ false
    by_test true e = absurd (not_both (same_text a b) (subst (λ x. same_text a x ≡ true) (sym (text-equal b a e)) (text-same a)) far)
    by_test false e = refl

-- a text that another is equal to is as far from a third
away : (own host other : List ℕ) → own ≡ host → same_text other host ≡ false → same_text own other ≡ false
away own host other same far = ap (λ x. same_text x other) same ∙ text-other other host far

-- the server of a host has it
pub has-host : (servers : List Server) (host : List ℕ) (server : Server) → server_at servers host ≡ Some server → server.host ≡ host
has-host [] host server there = absurd (cc)
has-host (first ∷ others) host server there = by_test (has-host others host server) (same_text first.host host) refl there
  where
    by_test : (server_at others host ≡ Some server → server.host ≡ host) → (b : Bool) → same_text first.host host ≡ b → (if b then Some first else server_at others host) ≡ Some server → server.host ≡ host
    by_test rest true e here = subst (λ (s : Server). s.host ≡ host) (some-same first server here) (text-equal first.host host e)
    by_test rest false e behind = rest behind

-- ---- a step

-- a step leaves a server of this host its host
abbrev pub Keeps : (Server → Server) → List ℕ → Type 0
Keeps step host = (server : Server) → server.host ≡ host → (step server).host ≡ host

-- the first of a list has the host or not
abbrev choose : Server → List Server → List ℕ → Bool → Option Server
choose first others host b = if b then Some first else server_at others host

-- the servers behind the first after a step at it or behind it
abbrev after : (Server → Server) → Server → List Server → List ℕ → Bool → List Server
after step first others host b = if b then step first ∷ others else first ∷ step_at step others host

-- the server of the step's host takes the step
pub stepped-here : (step : Server → Server) (servers : List Server) (host : List ℕ) → Keeps step host → server_at (step_at step servers host) host ≡ option_map step (server_at servers host)
stepped-here step [] host keeps = refl
stepped-here step (first ∷ others) host keeps = by_test (same_text first.host host) refl (stepped-here step others host keeps)
  where
    by_test : (b : Bool) → same_text first.host host ≡ b → server_at (step_at step others host) host ≡ option_map step (server_at others host)
        → server_at (after step first others host b) host ≡ option_map step (choose first others host b)
    by_test true e rest =
        let same : same_text (step first).host host ≡ true = ap (λ x. same_text x host) (keeps first (text-equal first.host host e)) ∙ text-same host in
        ap (choose (step first) others host) same
    by_test false e rest = ap (choose first (step_at step others host) host) e ∙ rest

-- and those of other hosts do not
pub stepped-other : (step : Server → Server) (servers : List Server) (host other : List ℕ) → Keeps step host → same_text other host ≡ false → server_at (step_at step servers host) other ≡ server_at servers other
stepped-other step [] host other keeps far = refl
stepped-other step (first ∷ others) host other keeps far = by_test (same_text first.host host) refl (stepped-other step others host other keeps far)
  where
    by_test : (b : Bool) → same_text first.host host ≡ b → server_at (step_at step others host) other ≡ server_at others other
        → server_at (after step first others host b) other ≡ server_at (first ∷ others) other
    by_test true e rest =
        let same : first.host ≡ host = text-equal first.host host e in
        ap (choose (step first) others other) (away (step first).host host other (keeps first same) far)
        ∙ sym (ap (choose first others other) (away first.host host other same far))
    by_test false e rest = ap (λ o. if same_text first.host other then Some first else o) rest

-- ---- a new server

-- it is found where no other has its host
pub named-at : (servers : List Server) (host other : List ℕ) → server_at (servers ++ new_server host ∷ []) other ≡ option_or (server_at servers other) (if same_text host other then Some (new_server host) else None)
named-at [] host other = refl
named-at (first ∷ others) host other = by_test (same_text first.host other) (named-at others host other)
  where
    new : Option Server
    new = if same_text host other then Some (new_server host) else None

    by_test : (b : Bool) → server_at (others ++ new_server host ∷ []) other ≡ option_or (server_at others other) new
        → (if b then Some first else server_at (others ++ new_server host ∷ []) other) ≡ option_or (if b then Some first else server_at others other) new
    by_test true rest = refl
    by_test false rest = rest
