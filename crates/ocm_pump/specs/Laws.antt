-- Laws of delivery.
use Rattle.std.specs.Prelude.{◌≡◌, List, Result, Err}
use Rattle.ocm_types.specs.declared.letters.Numbered.{Numbered}
use Rattle.ocm_pump.specs.declared.exchanges.Exchange.{Exchange}
use Rattle.ocm_pump.specs.declared.deliveries.Answered.{Answered}
use Rattle.ocm_pump.specs.declared.faults.PumpFault.{PumpFault}
use Rattle.ocm_pump.specs.declared.faults.PumpFault.TheVariants.{NoMemory}
use Rattle.ocm_pump.specs.Delivery.{Delivers}

-- what a delivery answers is fixed by its exchanges, but for want of memory
abbrev pub OneAnswer : Type 0
OneAnswer =
    (message : Numbered) (added : List Exchange) (a b : Result Answered PumpFault)
    → Delivers message added a → Delivers message added b
    → (a ≡ Err NoMemory → ⊥) → (b ≡ Err NoMemory → ⊥) → a ≡ b
