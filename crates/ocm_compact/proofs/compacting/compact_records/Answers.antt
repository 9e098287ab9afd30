use Rattle.std.proofs.Common.{sym, ap, ◌∙◌, [], None, Ok}
use Rattle.ocm_journal_image.specs.Reading.{records_from}
use Rattle.ocm_compact.specs.Replays.{home_of, refused_by}
use Rattle.ocm_compact.proofs.Made.{below-lost, below-taken, below-then, fault-differs, framed-of, refused-as, replayed}
use Rattle.ocm_compact.proofs.compacting.compact_records.Goals as goal

pub take_area-requires-clause-framed : goal.take_area-requires-clause-framed
take_area-requires-clause-framed c = framed-of c.args.front.now.form (records_from 0 c.args.front.now.place c.args.front.now.records.now) None c.requires.said

pub returns-in-Ok-None-clause-made : goal.returns-in-Ok-None-clause-made
returns-in-Ok-None-clause-made c =
    let front = c.args.front.now in
    let area = records_from 0 front.place front.records.now in
    let arm = c.in-Ok-None in
    replayed front.header front.form area c.take_area.new.self c.compact_replay.result c.as_slice.result.now (home_of c.new-old.result) c.as_slice.ensures
    (c.new-old.ensures.home ∙ c.requires.host) c.requires.said c.requires.own (arm.ensures.refused ∙ ap (λ o. Ok o) arm.field-0-is) (arm.ensures.opens (ap (λ o. Ok o) arm.field-0-is))
    c.compact_replay.ensures.made

pub returns-in-Ok-None-clause-differs : goal.returns-in-Ok-None-clause-differs
returns-in-Ok-None-clause-differs c = λ differs.
    (let front = c.args.front.now in
    let area = records_from 0 front.place front.records.now in
    let arm = c.in-Ok-None in
    below-taken front.header (home_of c.new-old.result) front.form area (c.new-old.ensures.home ∙ c.requires.host) c.requires.said c.requires.own
    (arm.ensures.refused ∙ ap (λ o. Ok o) arm.field-0-is))

pub returns-in-Ok-Some-clause-refused : goal.returns-in-Ok-Some-clause-refused
returns-in-Ok-Some-clause-refused c = λ place is.
    (let front = c.args.front.now in
    let area = records_from 0 front.place front.records.now in
    let arm = c.in-Ok-Some in
    refused-as front.header front.form area arm.place place is
    (below-then front.header front.form area arm.place c.requires.said c.requires.own
    (ap (λ h. refused_by h front.form [] area) (sym (c.new-old.ensures.home ∙ c.requires.host)) ∙ arm.ensures.refused ∙ ap (λ o. Ok o) arm.field-0-is)))

pub returns-clause-refused : goal.returns-clause-refused
returns-clause-refused c = λ place is.
    (let front = c.args.front.now in
    let area = records_from 0 front.place front.records.now in
    below-lost front.header (home_of c.new-old.result) front.form area c.in-Err.fault c.fault_of.result place c.fault_of.ensures (framed-of front.form area None c.requires.said)
    c.in-Err.ensures.refused (let same = is in cc))

pub returns-clause-differs : goal.returns-clause-differs
returns-clause-differs c = λ is. absurd (fault-differs c.in-Err.fault c.fault_of.result c.fault_of.ensures (let same = is in cc))
