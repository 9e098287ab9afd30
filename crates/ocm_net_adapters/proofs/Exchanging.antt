-- What a dial tells of an exchange, and a post of a delivery.
use Rattle.std.proofs.Common.{◌≡◌, ℕ, List, ◌∷◌, ◌++◌, Some, None, Result, Ok, Err, refl, ap}
use Rattle.std.specs.Result.{result_ok}
use Rattle.ocm_types.specs.declared.letters.Numbered.{Numbered}
use Rattle.ocm_pump.specs.Delivery.{Delivers}
use Rattle.ocm_pump.specs.Exchanges.{exchanged, AddsOne, AddsSome, there}
use Rattle.ocm_pump.specs.declared.deliveries.Answered.{Answered}
use Rattle.ocm_pump.specs.declared.exchanges.Exchange.{Exchange}
use Rattle.ocm_pump.specs.declared.exchanges.DialEnd.{DialEnd}
use Rattle.ocm_pump.specs.declared.exchanges.DialEnd.TheVariants.{Failed, NoMemory}
use Rattle.ocm_pump.specs.declared.faults.PumpFault.{PumpFault}
use Rattle.ocm_net_posts.specs.Exchanges.{joined}

-- an exchange that is told in each case is one that is told where it has to be
pub adds_one : (old new : List Exchange) (host request : List ℕ) (r : Result (List ℕ) DialEnd) → new ≡ exchanged host request (result_ok r) ++ old → AddsOne (Some old) (Some new) host request r
adds_one old new host request (Ok reply) told = ap Some told
adds_one old new host request (Err Failed) told = ap Some told
adds_one old new host request (Err NoMemory) told = (exchanged host request None, ap Some told, there None refl)

-- a delivery that is told with its exchanges is one that is told as a post has to
pub adds_some : (old new : List (List Exchange)) (m : Numbered) (given : List Exchange) (answer : Result Answered PumpFault) → new ≡ given ∷ old → Delivers m given answer
    → AddsSome (Some (joined old)) (Some (joined new)) (λ added. Delivers m added answer)
adds_some old new m given answer told delivers = (given, ap (λ (xs : List (List Exchange)). Some (joined xs)) told, delivers)
