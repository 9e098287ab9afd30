-- Which servers' lists are alike, and which histories are answered alike.
use Rattle.std.specs.Prelude.{◌≡◌, ℕ, List, ◌++◌}
use Rattle.ocm_entry.specs.declared.asks.Ask.{Ask}
use Rattle.ocm_entry.specs.declared.entries.Entry.{Entry}
use Rattle.ocm_entry.specs.declared.rows.Place.{Place}
use Rattle.ocm_rules.specs.History.{IsLegal, answer, kept}
use Rattle.ocm_rules.specs.State.{State, node_at, state_of}

-- The lists of two servers are alike: the same rows, and the same stands at each place. In which order what stands came may
-- differ, and so may the number of entries.
pub record AreAlike (one other : State) : Type 0 where
  pub host : one.host ≡ other.host
  pub moment : one.moment ≡ other.moment
  pub users : one.users ≡ other.users
  pub shares : one.shares ≡ other.shares
  pub limits : one.limits ≡ other.limits
  pub files : (place : Place) → node_at one.nodes place ≡ node_at other.nodes place
  pub received : one.received ≡ other.received
  pub requests : one.requests ≡ other.requests
  pub sent : one.sent ≡ other.sent

-- two histories of a host come to lists that are alike
abbrev pub IsAlike : List ℕ → List Entry → List Entry → Type 0
IsAlike host g other = AreAlike (state_of host (kept host g)) (state_of host (kept host other))

-- Each ask is answered alike after two histories, now and after any further entries: where the history with these is one that
-- a server can have, the other with them is one too, and each ask has the same answer after both.
pub record AnswersAlike (host : List ℕ) (g other : List Entry) : Type 0 where
  pub legal : (more : List Entry) → IsLegal host (more ++ g) → IsLegal host (more ++ other)
  pub back : (more : List Entry) → IsLegal host (more ++ other) → IsLegal host (more ++ g)
  pub answers : (more : List Entry) (ask : Ask) → IsLegal host (more ++ g) → answer host (more ++ other) ask ≡ answer host (more ++ g) ask
