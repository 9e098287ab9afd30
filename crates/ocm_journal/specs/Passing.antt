-- Calls that fail only with their disk.
use Rattle.std.specs.Prelude.{◌≡◌, ◌≤◌, ℕ, ◌+◌, Result, IsOk, OnOk, IfErr}
use Rattle.ocm_disk.specs.declared.disk.Disk.{Ghosts}
use Rattle.ocm_journal.specs.declared.faults.OpenFault.{OpenFault}
use Rattle.ocm_journal.specs.declared.faults.OpenFault.TheVariants.{DiskFault}

-- all further device calls pass, where writes stay within the room taken
abbrev pub AllPass : {D : Type 0} (disk : Ghosts D) → D → Type 0
AllPass disk now = (n : ℕ) → disk.passes now n

-- no fault of the disk
abbrev pub IsNoDiskFault : OpenFault → Type 0
IsNoDiskFault (DiskFault count) = ⊥
IsNoDiskFault fault = Unit {0}

-- it passes where all calls of the disk pass and there is room for a new journal, and so do all further calls
unfoldable pub PassesWithDisk : {D T E : Type 0} (disk : Ghosts D) → D → D → Result T E → Type 0
PassesWithDisk disk old new result = AllPass disk old → 514 ≤ disk.size old + disk.spare old → IsOk result × AllPass disk new

-- at Ok the disk has not failed; where all its calls pass, so do all further ones, and no fault of the disk is told
unfoldable pub FailsWithDisk : {D T : Type 0} (disk : Ghosts D) → D → D → Result T OpenFault → Type 0
FailsWithDisk disk old new result = OnOk result (disk.count new ≡ disk.count old) × (AllPass disk old → AllPass disk new × IfErr result IsNoDiskFault)
