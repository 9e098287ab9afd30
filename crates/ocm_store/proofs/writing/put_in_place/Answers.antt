use Rattle.std.proofs.Common.{sym, ap, subst, refl}
use Rattle.std.specs.Prelude.{Err}
use Rattle.ocm_journal.specs.Journals.{StandsFor, disk_of, first_is_live, form_of}
use Rattle.ocm_store.specs.Acts.{SpendsNone}
use Rattle.ocm_store.proofs.Journaling.{failed-renew, passed-renew}
use Rattle.ocm_store.proofs.writing.put_in_place.Goals as goal

pub returns-in-Ok-clause-written : goal.returns-in-Ok-clause-written
returns-in-Ok-clause-written G c = λ tells label before s. (c.in-Ok.ensures.form, c.in-Ok.ensures.acknowledged tells label before s)

pub returns-in-Ok-clause-made : goal.returns-in-Ok-clause-made
returns-in-Ok-clause-made G c = λ left. (c.in-Ok.ensures.calls left, λ pass. passed-renew _ refl (c.in-Ok.ensures.passes left pass))

pub returns-in-Err-Full-clause-unwritten : goal.returns-in-Err-Full-clause-unwritten
returns-in-Err-Full-clause-unwritten G c = λ tells label before s none.
    let same = c.in-Err-Full.ensures.unchanged (ap Err c.in-Err-Full.field-0-is) in
    (ap form_of same, subst (StandsFor G.D.Disk label before) (sym same) s)

pub returns-in-Err-Full-clause-fault : goal.returns-in-Err-Full-clause-fault
returns-in-Err-Full-clause-fault G c = ap (λ j. G.D.Disk.count (disk_of j)) (c.in-Err-Full.ensures.unchanged (ap Err c.in-Err-Full.field-0-is))

pub returns-in-Err-Full-clause-not_made : goal.returns-in-Err-Full-clause-not_made
returns-in-Err-Full-clause-not_made G c = λ none. subst (λ j. SpendsNone G.D.Disk (disk_of c.args.journal.now) (disk_of j)) (sym (c.in-Err-Full.ensures.unchanged (ap Err c.in-Err-Full.field-0-is))) (λ left. (λ b. b, λ p. p))

pub returns-in-Err-NoMemory-clause-unwritten : goal.returns-in-Err-NoMemory-clause-unwritten
returns-in-Err-NoMemory-clause-unwritten G c = λ tells label before s none. (c.in-Err-NoMemory.ensures.form_kept (ap Err c.in-Err-NoMemory.field-0-is), c.in-Err-NoMemory.ensures.memory tells label before s (ap Err c.in-Err-NoMemory.field-0-is))

pub returns-in-Err-NoMemory-clause-fault : goal.returns-in-Err-NoMemory-clause-fault
returns-in-Err-NoMemory-clause-fault G c = c.in-Err-NoMemory.ensures.no_fault (ap Err c.in-Err-NoMemory.field-0-is)

pub returns-in-Err-NoMemory-clause-not_made : goal.returns-in-Err-NoMemory-clause-not_made
returns-in-Err-NoMemory-clause-not_made G c = λ none. c.in-Err-NoMemory.ensures.no_call (ap Err c.in-Err-NoMemory.field-0-is)

pub returns-in-Err-DiskFault-clause-passes : goal.returns-in-Err-DiskFault-clause-passes
returns-in-Err-DiskFault-clause-passes G c = λ calls pass. failed-renew c.in-Err-DiskFault.field-0 _ c.in-Err-DiskFault.field-0-is (c.in-Err-DiskFault.ensures.passes calls pass)

pub returns-in-Err-DiskFault-clause-unwritten : goal.returns-in-Err-DiskFault-clause-unwritten
returns-in-Err-DiskFault-clause-unwritten G c = λ tells label before s none. absurd none

pub returns-in-Err-DiskFault-clause-not_made : goal.returns-in-Err-DiskFault-clause-not_made
returns-in-Err-DiskFault-clause-not_made G c = λ none. absurd none

pub returns-in-Err-Full-clause-still : goal.returns-in-Err-Full-clause-still
returns-in-Err-Full-clause-still G c = λ none. ap first_is_live (c.in-Err-Full.ensures.unchanged (ap Err c.in-Err-Full.field-0-is))

pub returns-in-Err-NoMemory-clause-still : goal.returns-in-Err-NoMemory-clause-still
returns-in-Err-NoMemory-clause-still G c = λ none. c.in-Err-NoMemory.ensures.live_kept (ap Err c.in-Err-NoMemory.field-0-is)

pub returns-in-Err-DiskFault-clause-still : goal.returns-in-Err-DiskFault-clause-still
returns-in-Err-DiskFault-clause-still G c = λ none. absurd none
