use Rattle.std.proofs.Common.{rules}
use Rattle.ocm_entry_bytes.specs.Spells.{AreBytes}
use Rattle.ocm_journal_image.specs.Blank.{IsBlankForAny}
use Rattle.ocm_journal_image.specs.Reading.{records_from}
use Rattle.ocm_compact.proofs.Made.{area-of, made-or-refused, told-fault}
use Rattle.ocm_compact.proofs.compacting.compact.Goals as goal

pub compact_front-requires-clause-area : goal.compact_front-requires-clause-area
compact_front-requires-clause-area c = λ framed.
    (let bytes_are : AreBytes c.args.bytes.now = search rules in
    let front = c.in-Ok.front in
    area-of c.args.bytes.now front.header front.form (records_from 0 front.place front.records.now) bytes_are c.in-Ok.ensures.reads framed)

pub returns-in-Ok : goal.returns-in-Ok
returns-in-Ok c =
    let other : IsBlankForAny c.args.bytes.now → ⊥ = search rules in
    made-or-refused c.args.bytes.now c.in-Ok.front.header c.in-Ok.front.form (records_from 0 c.in-Ok.front.place c.in-Ok.front.records.now) c.compact_front.result other c.in-Ok.ensures.reads
    c.compact_front.ensures.made c.compact_front.ensures.refused c.compact_front.ensures.differs

pub returns-in-Err : goal.returns-in-Err
returns-in-Err c =
    let other : IsBlankForAny c.args.bytes.now → ⊥ = search rules in
    told-fault c.args.bytes.now c.in-Err.fault c.fault_of.result c.fault_of.ensures other c.in-Err.ensures.reads
