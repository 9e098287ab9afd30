use Rattle.std.proofs.Common.{length, refl, ap, sym, ◌∙◌, arith}
use Rattle.ocm_rules.proofs.Numbering.{length-map_numbered}
use Rattle.ocm_incoming.specs.Lists.{InboxLists}
use Rattle.ocm_incoming.specs.Index.{mark_groups}
use Rattle.ocm_incoming.proofs.Asking.{none-holds}
use Rattle.ocm_incoming.proofs.Kept.{mark_groups-length}
use Rattle.ocm_incoming.proofs.Removing.{nothing-held, number-there, removing-start, removing-step, removing-end}
use Rattle.ocm_incoming.proofs.inboxes.Inbox.removed.Goals as goal

pub returns-in_default-clause-records : goal.returns-in_default-clause-records
returns-in_default-clause-records c =
    let none = sym c.first_with.ensures ∙ c.in_default.is in
    rw (← c.self.view_is) (nothing-held c.args.mark.now c.self.inside.records.rows (none-holds c.self.inside.records.rows c.args.mark.now none)).0

pub returns-in_default-clause-count : goal.returns-in_default-clause-count
returns-in_default-clause-count c =
    let none = sym c.first_with.ensures ∙ c.in_default.is in
    rw (← c.self.view_is) (nothing-held c.args.mark.now c.self.inside.records.rows (none-holds c.self.inside.records.rows c.args.mark.now none)).1

pub loop-number-init : goal.loop-number-init
loop-number-init c =
    let found = sym c.first_with.ensures ∙ c.in-Some.is in
    rw (← c.self.view_is) (removing-start c.args.mark.now c.in-Some.group c.last-number.result 0 _ _ refl c.self.invariant.few found c.self.invariant.by_mark c.last-number.ensures)

pub remove-requires : goal.remove-requires
remove-requires c = number-there c.loop-number.self.records c.loop-number.number (omega arith) c.loop-number.invariant.within

pub earlier-number-requires-clause-within : goal.earlier-number-requires-clause-within
earlier-number-requires-clause-within c =
    let groups = ap length c.self-in-loop-number.invariant.by_mark ∙ mark_groups-length c.self-in-loop-number.inside.records.rows in
    let rows = ap (λ (v : InboxLists). length v.records) c.self-in-loop-number.view_is in
    let same = ap length c.remove.ensures.records ∙ length-map_numbered _ 1 c.loop-number.self.records in
    omega (arith, groups, rows, same, c.loop-number.invariant.within)

pub loop-number-preserved : goal.loop-number-preserved
loop-number-preserved c =
    let groups = c.self-in-loop-number.invariant.by_mark ∙ ap (λ (v : InboxLists). mark_groups v.records) c.self-in-loop-number.view_is in
    removing-step c.args.mark.now c.in-Some.group c.loop-number.number c.earlier-number.result c.loop-number.count c.one_if-count.result c.remove.result _ c.args.self.now c.loop-number.self _ c.loop-number.invariant (omega arith) c.remove.ensures.records c.remove.ensures.requests c.remove.ensures.room c.remove.ensures.result c.one_if-count.ensures groups c.earlier-number.ensures

pub returns-clause-records : goal.returns-clause-records
returns-clause-records c = (removing-end c.args.mark.now c.in-Some.group c.loop-number.number c.loop-number.count c.args.self.now c.loop-number.self c.loop-number.invariant (omega arith)).0

pub returns-clause-count : goal.returns-clause-count
returns-clause-count c = (removing-end c.args.mark.now c.in-Some.group c.loop-number.number c.loop-number.count c.args.self.now c.loop-number.self c.loop-number.invariant (omega arith)).1
