-- What a function that reads a line, or a part of one, answers.
use Rattle.std.specs.Prelude.{◌≡◌, Option, Some, None, Result, Ok, Err}
use Rattle.ocm_access_log.specs.declared.faults.LineFault.{LineFault}
use Rattle.ocm_access_log.specs.declared.faults.LineFault.TheVariants as faults

-- a bad line is one that reading gives nothing for; want of memory may come at any line
abbrev pub Fails : {Y : Type 0} → LineFault → Option Y → Type 0
Fails faults.NoMemory read = Unit {0}
Fails faults.Bad read = read ≡ None

-- what a function returned, seen by view, is what reading gives, unless memory ran out
abbrev pub Gives : {X Y : Type 0} → (X → Y) → Result X LineFault → Option Y → Type 0
Gives view (Ok x) read = read ≡ Some (view x)
Gives view (Err e) read = Fails e read
