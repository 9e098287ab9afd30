-- What a dial over TCP tells.
use Rattle.std.specs.Prelude.{ℕ, List, []}
use Rattle.ocm_pump.specs.declared.exchanges.Came.{Came}
use Rattle.ocm_pump.specs.declared.exchanges.Exchange.{Exchange}

-- the exchanges of a dial and what it was told of deliveries, each with the newest first, and its count of faults
pub record DialTold : Type 0 where
  pub exchanges : List Exchange
  pub told : List Came
  pub faults : ℕ

-- a dial that made no exchange, was told nothing and had no fault
abbrev pub nothing_told : DialTold
nothing_told = record { exchanges = []; told = []; faults = 0 }
