-- The status of a program that ran a server by a plan.
use Rattle.std.specs.Prelude.{◌≡◌, ◌⊎◌, ℕ}
use Rattle.ocm_server.specs.Statuses.{status_of}
use Rattle.ocm_server.specs.declared.served.Served.{Served}
use Rattle.ocm_serve_system.specs.declared.openings.OpenFault.{OpenFault}
use Rattle.ocm_serve_system.specs.declared.openings.OpenFault.TheVariants.{NoMemory}

-- the status of a program that ran a server: by how it ended, or 12 where it could not begin
abbrev pub IsStatus : ℕ → Type 0
IsStatus n = (n ≡ 12) ⊎ ((served : Served) × (n ≡ status_of served))

-- the status of a program whose server could not begin
abbrev pub fault_status : OpenFault → ℕ
fault_status NoMemory = 5
fault_status _ = 12
