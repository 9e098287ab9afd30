-- The faults of writing, and what is told of them.
use Rattle.std.specs.Prelude.{◌≡◌, ℕ, Bool, true, false, Option, Some, None, Result, Err}
use Rattle.ocm_base.specs.Outside.{raised}
use Rattle.ocm_entry.specs.declared.replies.Reply.{Reply}
use Rattle.ocm_entry.specs.declared.replies.Reply.TheVariants as replies
use Rattle.ocm_store.specs.declared.write_faults.WriteFault.{WriteFault}
use Rattle.ocm_store.specs.declared.write_faults.WriteFault.TheVariants.{Full, DiskFault, NoMemory}

-- the count of the fault of the disk that is told
abbrev pub count_told : WriteFault → Option ℕ
count_told Full = None
count_told (DiskFault count) = Some count
count_told NoMemory = None

-- what is told of a change that was not written
abbrev pub reply_told : WriteFault → Reply
reply_told Full = replies.JournalFull
reply_told (DiskFault count) = replies.DiskFault count
reply_told NoMemory = replies.NoMemory

-- a fault of the disk tells its count of faults, which rose
abbrev pub HasCount : ℕ → ℕ → WriteFault → Type 0
HasCount before now (DiskFault count) = (count ≡ now) × (now ≡ raised before)
HasCount before now fault = now ≡ before

-- a fault that is none of the disk
abbrev pub IsNoDiskFault : WriteFault → Type 0
IsNoDiskFault (DiskFault count) = ⊥
IsNoDiskFault fault = Unit {0}

-- whether this answer stops the journal
abbrev pub stops : Result (Unit {0}) WriteFault → Bool
stops (Err (DiskFault count)) = true
stops _ = false
