-- The exchanges of deliveries, as histories: the newest first.
use Rattle.std.specs.Prelude.{ℕ, List, [], ◌∷◌, ◌++◌, Option, Some, None, Result}
use Rattle.std.specs.Result.{result_ok}
use Rattle.ocm_types.specs.declared.letters.Numbered.{Numbered}
use Rattle.ocm_pump.specs.Exchanges.{exchanged}
use Rattle.ocm_pump.specs.Machines.{asks_by, Runs}
use Rattle.ocm_pump.specs.declared.exchanges.DialEnd.{DialEnd}
use Rattle.ocm_pump.specs.declared.exchanges.Exchange.{Exchange}
use Rattle.ocm_pump.specs.declared.stages.Stage.{Stage}
use Rattle.ocm_pump.specs.declared.stages.Stage.TheVariants.{First}

-- the exchange that was asked for, by what came back; none where none was
abbrev pub made_of : Option (List ℕ × List ℕ) → Result (List ℕ) DialEnd → List Exchange
made_of None reply = []
made_of (Some (host, request)) reply = exchanged host request (result_ok reply)

-- what a delivery that is at this stage adds to its exchanges, by what came back
abbrev pub made : Numbered → Stage → Result (List ℕ) DialEnd → List Exchange
made m stage reply = made_of (asks_by m stage) reply

-- those of several, one behind another
abbrev pub joined : List (List Exchange) → List Exchange
joined [] = []
joined (exchanges ∷ others) = exchanges ++ joined others

-- a delivery with its exchanges: its message, how far it is, and what it made
pub record NotedState : Type 0 where
  pub message : Numbered
  pub stage : Stage
  pub exchanges : List Exchange

-- there are replies by which the delivery of a message made just these exchanges and came to this stage
abbrev pub HasMade : Numbered → Stage → List Exchange → Type 0
HasMade m stage exchanges = (replies : List (Result (List ℕ) DialEnd)) × Runs m First replies exchanges stage
