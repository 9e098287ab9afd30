-- The counts that faults of a disk tell.
use Rattle.std.specs.Prelude.{◌≡◌, ℕ, Bool, true, false, Result, Err}
use Rattle.ocm_base.specs.Outside.{raised}
use Rattle.ocm_journal.specs.declared.appending.AppendFault.{AppendFault}
use Rattle.ocm_journal.specs.declared.appending.AppendFault.TheVariants.{Full, DiskFault}

-- a fault of the disk tells its count of faults, which rose
abbrev pub HasCount : ℕ → ℕ → AppendFault → Type 0
HasCount before now Full = Unit {0}
HasCount before now (DiskFault count) = (count ≡ now) × (now ≡ raised before)

-- whether this answer stops the journal
abbrev pub stops : Result (Unit {0}) AppendFault → Bool
stops (Err (DiskFault count)) = true
stops _ = false
