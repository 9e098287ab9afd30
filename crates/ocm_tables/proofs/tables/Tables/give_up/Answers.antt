use Rattle.std.proofs.Common.{ap, List}
use Rattle.ocm_rules.specs.declared.rows.ReceivedRow.{ReceivedRow}
use Rattle.ocm_rules.specs.State.{State}
use Rattle.ocm_tables.proofs.Received.{rows-unshared}
use Rattle.ocm_tables.proofs.tables.Tables.give_up.Goals as goal

pub returns-clause-state : goal.returns-clause-state
returns-clause-state c =
    let old = c.self.inside in
    rw (← c.self.view_is, c.removed-count.ensures.records, c.removed-count.ensures.requests)
    (ap (λ (rows : List ReceivedRow). let r : State = record { host = old.host; moment = old.shares.moment; users = old.users.users; shares = old.shares.shares; limits = old.limits; nodes = old.files.nodes; received = rows; requests = old.inbox.requests; sent = old.outbox.sent } in r) (rows-unshared old.inbox.records old.board.told c.args.mark.now))
