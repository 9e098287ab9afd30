-- Laws of the words, and of what is answered.
use Rattle.std.specs.Prelude.{◌≡◌, ℕ, List, Result, Err}
use Rattle.ocm_pump.specs.declared.exchanges.Exchange.{Exchange}
use Rattle.ocm_davclient.specs.declared.faults.ClientFault.{ClientFault}
use Rattle.ocm_davclient.specs.declared.faults.ClientFault.TheVariants.{NoMemory}
use Rattle.ocm_commands_dav.specs.Exchanges.{Works}
use Rattle.ocm_commands_dav.specs.Words.{Asks}
use Rattle.ocm_commands_dav.specs.declared.tasks.Task.{Task}

-- words ask for one task at most
abbrev pub OneTask : Type 0
OneTask = (words : List (List ℕ)) (a b : Task) → Asks words a → Asks words b → a ≡ b

-- what a task answers is fixed by its body and its exchanges, but for want of memory
abbrev pub OneAnswer : Type 0
OneAnswer =
    (task : Task) (body : List ℕ) (added : List Exchange) (a b : Result (List ℕ) ClientFault)
    → Works task body added a → Works task body added b → (a ≡ Err NoMemory → ⊥) → (b ≡ Err NoMemory → ⊥) → a ≡ b
