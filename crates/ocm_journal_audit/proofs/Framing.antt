-- Records are tested one after another.
use Rattle.std.proofs.Common.{ℕ, Result, Ok, Err}
use Rattle.ocm_journal_image.specs.declared.readings.Records.{Records}

-- whether records are framed, or the place of the fault
abbrev pub framing : Result Records ℕ → Result (Unit {0}) ℕ
framing (Ok read) = Ok tt
framing (Err place) = Err place
