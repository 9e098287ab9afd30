use Rattle.std.proofs.Common.{ap}
use Rattle.ocm_incoming.specs.declared.rows.Record.{Record}
use Rattle.ocm_incoming.specs.Lists.{phased}
use Rattle.ocm_incoming.proofs.Changing.{set-changed, number-within}
use Rattle.ocm_incoming.proofs.RecordLists.{set-IsRecords}
use Rattle.ocm_incoming.proofs.records.RecordTable.set_phase.Goals as goal

pub invariant_of-self : goal.invariant_of-self
invariant_of-self c = set-IsRecords c.self.inside.rows.items _ _ c.index_mut.result.now _ _ _ c.self.invariant (ap (λ (r : Record). r.offer) c.index_mut.ensures.value)

pub returns-clause-rows : goal.returns-clause-rows
returns-clause-rows c =
    let there = number-within c.self.inside.rows.items c.args.number (rw (← c.self.view_is) at c.requires) in
    rw (← c.self.view_is) (set-changed c.self.inside.rows.items _ c.args.number (phased c.args.phase) _ c.index_mut.result.now there.0 there.1 (ap (phased c.args.phase) c.index_mut.ensures.value))
