-- What has no text has no value that is read from it, and the fault is the same.
use Rattle.std.proofs.Common.{Option, Some, None, Result, Ok, Err}
use Rattle.ocm_records.specs.Kinds.{◌>>=◌, each}
use Rattle.ocm_records.specs.Rows.{Fails, or_else}
use Rattle.ocm_records.specs.declared.faults.RecordFault.{RecordFault}
use Rattle.ocm_records.specs.declared.faults.RecordFault.TheVariants as faults

-- a fault is the same, whatever would have been read
same_fault : (A B : Type 0) (x e : RecordFault) → Fails {Y = A} e (Err x) → Fails {Y = B} e (Err x)
same_fault A B x faults.NotJson is = cc
same_fault A B x faults.NotObject is = cc
same_fault A B x (faults.Missing f) is = cc
same_fault A B x (faults.Kind f) is = cc
same_fault A B x (faults.Value f) is = cc
same_fault A B x (faults.Unsupported f) is = cc
same_fault A B x faults.NoMemory is = tt

-- a value is no fault, but memory may run out at any
no_fault : {A B : Type 0} (x : A) (r : Result B RecordFault) (e : RecordFault) → Fails e (Ok x) → Fails e r
no_fault x r faults.NotJson is = cc
no_fault x r faults.NotObject is = cc
no_fault x r (faults.Missing f) is = cc
no_fault x r (faults.Kind f) is = cc
no_fault x r (faults.Value f) is = cc
no_fault x r (faults.Unsupported f) is = cc
no_fault x r faults.NoMemory is = tt

-- where there is no text, nothing is read from it
pub no_text : {S A : Type 0} (t : Result (Option S) RecordFault) (g : S → Result A RecordFault) (absent e : RecordFault) → Fails e (t >>= or_else (Err absent)) → Fails e ((t >>= each g) >>= or_else (Err absent))
no_text {S} {A} (Err x) g absent e is = same_fault S A x e is
no_text {S} {A} (Ok None) g absent e is = same_fault S A absent e is
no_text (Ok (Some s)) g absent e is = no_fault s _ e is
