use Rattle.ocm_journal_image.specs.Reading.{records_from}
use Rattle.ocm_compact.proofs.Made.{below-fault, fault-differs}
use Rattle.ocm_compact.proofs.compacting.compact_front.Goals as goal

pub returns-in-Err-clause-refused : goal.returns-in-Err-clause-refused
returns-in-Err-clause-refused c = λ place is.
    (let front = c.args.front.now in
    below-fault front.header front.form (records_from 0 front.place front.records.now) c.in-Err.fault c.fault_of.result place c.fault_of.ensures c.in-Err.ensures (let same = is in cc))

pub returns-in-Err-clause-differs : goal.returns-in-Err-clause-differs
returns-in-Err-clause-differs c = λ is. absurd (fault-differs c.in-Err.fault c.fault_of.result c.fault_of.ensures (let same = is in cc))
