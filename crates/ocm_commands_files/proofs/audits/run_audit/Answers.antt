use Rattle.std.proofs.Common.{ap}
use Rattle.std.specs.Prelude.{Err}
use Rattle.std.proofs.lemmas.Result.{on_err_weaker}
use Rattle.ocm_journal_audit.specs.declared.faults.AuditFault.{AuditFault}
use Rattle.ocm_commands_files.proofs.Parts.{audited-part, named-place, named-place-part}
use Rattle.ocm_commands_files.proofs.audits.run_audit.Goals as goal

pub returns-in-Err-NotJournal-clause-whole : goal.returns-in-Err-NotJournal-clause-whole
returns-in-Err-NotJournal-clause-whole g c =
    let refused = c.in-Err-NotJournal.ensures.not_journal c.in-Err-NotJournal.place (ap (λ (f : AuditFault). Err f) c.in-Err-NotJournal.field-0-is) in
    named-place c.args.bytes.now c.in-Err-NotJournal.place (g.K.Sink.taken c.args.sink.now) (g.K.Sink.taken c.audit.new.sink) (g.K.Sink.taken c.name_place.new.sink) c.name_place.result c.requires refused.0 (ap g.K.Sink.taken refused.1) c.name_place.ensures.whole

pub returns-in-Err-NotJournal-clause-part : goal.returns-in-Err-NotJournal-clause-part
returns-in-Err-NotJournal-clause-part g c =
    let refused = c.in-Err-NotJournal.ensures.not_journal c.in-Err-NotJournal.place (ap (λ (f : AuditFault). Err f) c.in-Err-NotJournal.field-0-is) in
    on_err_weaker c.name_place.result (λ part. named-place-part c.args.bytes.now c.in-Err-NotJournal.place (g.K.Sink.taken c.args.sink.now) (g.K.Sink.taken c.audit.new.sink) (g.K.Sink.taken c.name_place.new.sink) c.requires refused.0 (ap g.K.Sink.taken refused.1) part) c.name_place.ensures.part

pub returns-in-Err-WriteFault-clause-part : goal.returns-in-Err-WriteFault-clause-part
returns-in-Err-WriteFault-clause-part g c = audited-part c.args.bytes.now (g.K.Sink.taken c.args.sink.now) (g.K.Sink.taken c.audit.new.sink) c.requires c.in-Err-WriteFault.ensures.part

pub returns-in-Err-NoMemory-clause-part : goal.returns-in-Err-NoMemory-clause-part
returns-in-Err-NoMemory-clause-part g c = audited-part c.args.bytes.now (g.K.Sink.taken c.args.sink.now) (g.K.Sink.taken c.audit.new.sink) c.requires c.in-Err-NoMemory.ensures.part
