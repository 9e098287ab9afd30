use Rattle.std.proofs.Common.{◌∙◌, ap, sym, refl, List}
use Rattle.ocm_rules.specs.declared.rows.ReceivedRow.{ReceivedRow}
use Rattle.ocm_rules.specs.State.{State}
use Rattle.ocm_tables.specs.Tables.{received_row}
use Rattle.ocm_tables.proofs.Joins.{joined-change_first, changed_at-length}
use Rattle.ocm_tables.proofs.Received.{rows-there}
use Rattle.ocm_tables.proofs.tables.Tables.set_phase.Goals as goal

pub set_phase-requires : goal.set_phase-requires
set_phase-requires c =
    let there = rw (← c.self.view_is) at c.requires in
    sym (rows-there c.self.inside.inbox.records c.self.inside.board.told c.args.number c.self.invariant.each_told) ∙ there

pub invariant_of-self : goal.invariant_of-self
invariant_of-self c = rw c.set_phase.ensures.records (record {
  each_told = c.self.invariant.each_told ∙ sym (changed_at-length c.args.number _ c.self.inside.inbox.records);
  owned = c.self.invariant.owned;
  made = c.self.invariant.made;
})

pub returns-clause-state : goal.returns-clause-state
returns-clause-state c =
    let old = c.self.inside in
    rw (← c.self.view_is, c.set_phase.ensures.records, c.set_phase.ensures.requests)
    (ap (λ (rows : List ReceivedRow). let r : State = record { host = old.host; moment = old.shares.moment; users = old.users.users; shares = old.shares.shares; limits = old.limits; nodes = old.files.nodes; received = rows; requests = old.inbox.requests; sent = old.outbox.sent } in r)
    (joined-change_first received_row _ _ c.args.number old.inbox.records old.board.told (λ x y. refl)))
