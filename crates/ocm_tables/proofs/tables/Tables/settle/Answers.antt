use Rattle.std.proofs.Common.{◌∙◌, refl}
use Rattle.ocm_rules.specs.State.{State}
use Rattle.ocm_tables.specs.Tables.{received_rows}
use Rattle.ocm_tables.proofs.Outcomes.{fits-sent}
use Rattle.ocm_tables.proofs.tables.Tables.settle.Goals as goal

pub act-requires : goal.act-requires
act-requires c =
    let old = c.self.inside in
    let st : State = record { host = old.host; moment = old.shares.moment; users = old.users.users; shares = old.shares.shares; limits = old.limits; nodes = old.files.nodes; received = received_rows old.inbox.records old.board.told; requests = old.inbox.requests; sent = old.outbox.sent } in
    fits-sent st c.args.outcome c.settle.new.self.sent (rw (← c.self.view_is) at c.requires.outcome)

pub returns-clause-state : goal.returns-clause-state
returns-clause-state c = c.act.ensures.state ∙ rw (c.settle.ensures.sent, ← c.self.view_is) refl
