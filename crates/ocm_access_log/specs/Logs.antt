-- What reading a log answers.
use Rattle.std.specs.Prelude.{◌≡◌, ℕ, List, Result, Ok, Err}
use Rattle.ocm_access_log.specs.declared.lines.LogLine.{LogLine}
use Rattle.ocm_access_log.specs.declared.faults.LogReadFault.{LogReadFault}
use Rattle.ocm_access_log.specs.declared.faults.LogReadFault.TheVariants as log_faults
use Rattle.ocm_access_log.specs.declared.faults.LineFault.{LineFault}
use Rattle.ocm_access_log.specs.declared.faults.LineFault.TheVariants as line_faults

-- a fault is that of the first bad line, or want of memory
abbrev pub IsLogFault : LogReadFault → Result (List LogLine) ℕ → Type 0
IsLogFault (log_faults.BadLine number) read = read ≡ Err number
IsLogFault log_faults.NoMemory read = Unit {0}

-- what was answered is what reading gives, unless memory ran out
abbrev pub GivesLog : Result (List LogLine) LogReadFault → Result (List LogLine) ℕ → Type 0
GivesLog (Ok lines) read = read ≡ Ok lines
GivesLog (Err fault) read = IsLogFault fault read

-- a fault of a line as that of the line of this number
abbrev pub numbered_fault : ℕ → LineFault → LogReadFault
numbered_fault number line_faults.Bad = log_faults.BadLine number
numbered_fault number line_faults.NoMemory = log_faults.NoMemory

-- a line, or its fault, as that of the line of this number
abbrev pub numbered : ℕ → Result LogLine LineFault → Result LogLine LogReadFault
numbered number (Ok line) = Ok line
numbered number (Err fault) = Err (numbered_fault number fault)
