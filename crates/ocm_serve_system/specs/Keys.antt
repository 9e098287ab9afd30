-- The administrator's key of orders.
use Rattle.std.specs.Prelude.{◌≡◌, ℕ, List, Result, Ok, Err}
use Rattle.ocm_serve_options.specs.declared.plans.AdminKey.{AdminKey}
use Rattle.ocm_serve_options.specs.declared.plans.AdminKey.TheVariants.{Key, File}
use Rattle.ocm_serve_system.specs.declared.openings.OpenFault.{OpenFault}
use Rattle.ocm_serve_system.specs.declared.openings.OpenFault.TheVariants.{NoMemory}

-- the key that the orders have, but where there was no memory; of what a file holds nothing is known here
abbrev pub IsKeyOf : AdminKey → Result (List ℕ) OpenFault → Type 0
IsKeyOf (Key key) (Ok read) = read ≡ key
IsKeyOf (Key key) (Err fault) = fault ≡ NoMemory
IsKeyOf (File path) read = Unit {0}
