-- The lines of an image's records are told one after another.
use Rattle.std.proofs.Common.{◌≡◌, ℕ, List, ◌++◌, inl, inr, Result, Ok, Err, IsOk, refl, sym, ◌∙◌, append_assoc}
use Rattle.ocm_journal_image.specs.declared.readings.RawRecord.{RawRecord}
use Rattle.ocm_journal_image.specs.declared.readings.Records.{Records}
use Rattle.ocm_journal_image.specs.Reading.{put_first}
use Rattle.ocm_journal_audit.specs.Audits.{Audits, end_line, line_of, lines_of}
use Rattle.ocm_journal_audit.specs.Passes.{told_lines}

-- what follows a record of framed records is framed
pub IsOk-rest : (r : RawRecord) (all read : Result Records ℕ) → all ≡ put_first r read → IsOk all → IsOk read
IsOk-rest r all (Ok read) is ok = refl
IsOk-rest r all (Err place) is ok = absurd cc

-- the line of a record stands before those of the records behind it
pub told_lines-more : (form : ℕ) (r : RawRecord) (all read : Result Records ℕ) → all ≡ put_first r read → IsOk all → told_lines form all ≡ line_of form r.place r.bytes ++ told_lines form read
told_lines-more form r all (Ok read) is ok = rw is (append_assoc (line_of form r.place r.bytes) (lines_of form read.items) (end_line read.end))
told_lines-more form r all (Err place) is ok = absurd cc

-- an audit tells one thing
pub one_told : (bytes : List ℕ) (told other : Result (List ℕ) ℕ) → Audits bytes told → Audits bytes other → told ≡ other
one_told bytes told other (inl a) (inl b) = a.1 ∙ sym b.1
one_told bytes told other (inl a) (inr b) = absurd (b.0 a.0)
one_told bytes told other (inr a) (inl b) = absurd (a.0 b.0)
one_told bytes told other (inr a) (inr b) = a.1 ∙ sym b.1
