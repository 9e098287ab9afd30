use Rattle.std.proofs.Common.{ap, ◌∙◌, Ok}
use Rattle.ocm_journal_image.specs.Reading.{records_from}
use Rattle.ocm_journal_audit.proofs.OwnHosts.{host-is, host-none}
use Rattle.ocm_compact.proofs.Made.{below-label, below-said, refused-as}
use Rattle.ocm_compact.proofs.compacting.compact_framed.Goals as goal

pub returns-in-None-default-clause-refused : goal.returns-in-None-default-clause-refused
returns-in-None-default-clause-refused c = λ place is.
    (let front = c.args.front.now in
    let area = records_from 0 front.place front.records.now in
    let foreign = host-none front.header.label c.as_slice.result.now c.in_ok-host.host c.as_slice.ensures c.in_ok-host.ensures c.in-None-default.is-0 in
    refused-as front.header front.form area 9 place is (below-label front.header front.form area c.args.refused c.requires.refused foreign))

pub returns-in-Some-Some-clause-refused : goal.returns-in-Some-Some-clause-refused
returns-in-Some-Some-clause-refused c = λ place is.
    (let front = c.args.front.now in
    let area = records_from 0 front.place front.records.now in
    let arm = c.in-Some-Some in
    let own = host-is front.header.label c.as_slice.result.now c.in_ok-host.host arm.host c.as_slice.ensures c.in_ok-host.ensures arm.is-0 in
    refused-as front.header front.form area arm.place place is (below-said front.header front.form area arm.place (c.requires.refused ∙ ap (λ o. Ok o) arm.is-1) own.0))

pub compact_records-requires-clause-host : goal.compact_records-requires-clause-host
compact_records-requires-clause-host c =
    (host-is c.args.front.now.header.label c.as_slice.result.now c.in_ok-host.host c.in-Some-None.host c.as_slice.ensures c.in_ok-host.ensures c.in-Some-None.is-0).1

pub compact_records-requires-clause-own : goal.compact_records-requires-clause-own
compact_records-requires-clause-own c =
    (host-is c.args.front.now.header.label c.as_slice.result.now c.in_ok-host.host c.in-Some-None.host c.as_slice.ensures c.in_ok-host.ensures c.in-Some-None.is-0).0

pub compact_records-requires-clause-said : goal.compact_records-requires-clause-said
compact_records-requires-clause-said c = c.requires.refused ∙ ap (λ o. Ok o) c.in-Some-None.is-1
