use Rattle.std.proofs.Common.{length, length-append, ap, arith, List}
use Rattle.ocm_rules.specs.declared.rows.ReceivedRow.{ReceivedRow}
use Rattle.ocm_rules.specs.State.{State}
use Rattle.ocm_tables.specs.Tables.{received_row}
use Rattle.ocm_tables.proofs.Joins.{joined-push}
use Rattle.ocm_tables.proofs.Received.{rows-length}
use Rattle.ocm_tables.proofs.tables.Tables.receive.Goals as goal

pub receive-number-requires-clause-few : goal.receive-number-requires-clause-few
receive-number-requires-clause-few c =
    let few = rw (← c.self.view_is) at c.requires.few in
    rw (rows-length c.self.inside.inbox.records c.self.inside.board.told c.self.invariant.each_told) at few

pub invariant_of-self : goal.invariant_of-self
invariant_of-self c =
    let told = simp length-append at (ap length c.add.ensures.told) in
    let records = simp length-append at (ap length c.receive-number.ensures.records) in
    record {
      each_told = omega (arith, told, records, c.self.invariant.each_told);
      owned = c.self.invariant.owned;
      made = c.self.invariant.made;
    }

pub returns-clause-state : goal.returns-clause-state
returns-clause-state c =
    let old = c.self.inside in
    rw (← c.self.view_is, c.receive-number.ensures.records, c.receive-number.ensures.requests, c.add.ensures.told, c.offer.ensures)
    (ap (λ (rows : List ReceivedRow). let r : State = record { host = old.host; moment = old.shares.moment; users = old.users.users; shares = old.shares.shares; limits = old.limits; nodes = old.files.nodes; received = rows; requests = old.inbox.requests; sent = old.outbox.sent } in r)
    (joined-push received_row old.inbox.records old.board.told _ _ c.self.invariant.each_told))
