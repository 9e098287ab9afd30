-- The faults of a renewal.
use Rattle.std.specs.Prelude.{◌≡◌, ℕ, Bool, true, false, Result, Err}
use Rattle.ocm_base.specs.Outside.{raised}
use Rattle.ocm_journal.specs.declared.renewing.RenewFault.{RenewFault}
use Rattle.ocm_journal.specs.declared.renewing.RenewFault.TheVariants.{DiskFault}

-- a fault of the disk tells its count of faults, which rose
abbrev pub HasCount : ℕ → ℕ → RenewFault → Type 0
HasCount before now (DiskFault count) = (count ≡ now) × (now ≡ raised before)
HasCount before now fault = Unit {0}

-- whether this answer stops the journal
abbrev pub stops : Result (Unit {0}) RenewFault → Bool
stops (Err (DiskFault count)) = true
stops _ = false
