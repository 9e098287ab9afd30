-- A dial in memory.
use Rattle.std.specs.Prelude.{ℕ, List, ◌++◌, take, drop, slice_get, Option, Some, None}
use Rattle.ocm_base.specs.Outside.{raised}
use Rattle.ocm_limits.specs.Limits.{most_exchange_bytes}
use Rattle.ocm_pump.specs.declared.exchanges.Came.{Came}
use Rattle.ocm_pump.specs.declared.exchanges.Exchange.{Exchange}
use Rattle.ocm_pump.specs.Exchanges.{exchanged}

-- the replies that it has left, where None is a failure; its exchanges, the newest first; how many of them failed; and what it was told of
-- deliveries, the newest first, unless there was no memory for it
pub record DialState : Type 0 where
  pub replies : List (Option (List ℕ))
  pub exchanges : List Exchange
  pub faults : ℕ
  pub told : Option (List Came)

-- the bytes that come back of a reply: 33,619,968 at most
abbrev pub front : Option (List ℕ) → Option (List ℕ)
front (Some bytes) = Some (take most_exchange_bytes bytes)
front None = None

-- what comes back of the next reply; after the last each exchange fails
abbrev pub front_at : Option (Option (List ℕ)) → Option (List ℕ)
front_at (Some reply) = front reply
front_at None = None

abbrev pub next_of : List (Option (List ℕ)) → Option (List ℕ)
next_of replies = front_at (slice_get replies 0)

-- a count of faults after an exchange
abbrev pub faults_after : Option (List ℕ) → ℕ → ℕ
faults_after (Some bytes) faults = faults
faults_after None faults = raised faults

-- the dial after an exchange that did not want for memory
abbrev pub after_exchange : DialState → List ℕ → List ℕ → DialState
after_exchange dial host request =
    let reply = next_of dial.replies in
    record {
      replies = drop 1 dial.replies;
      exchanges = exchanged host request reply ++ dial.exchanges;
      faults = faults_after reply dial.faults;
      told = dial.told;
    }
