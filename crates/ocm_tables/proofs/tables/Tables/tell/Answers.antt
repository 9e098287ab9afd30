use Rattle.std.proofs.Common.{◌∙◌, ap, sym, List}
use Rattle.ocm_rules.specs.declared.rows.ReceivedRow.{ReceivedRow}
use Rattle.ocm_rules.specs.State.{State}
use Rattle.ocm_tables.proofs.Received.{rows-told_all, rows-told_there}
use Rattle.ocm_tables.proofs.Tellings.{told_all-length}
use Rattle.ocm_tables.proofs.tables.Tables.tell.Goals as goal

pub tell_all-requires : goal.tell_all-requires
tell_all-requires c =
    let there = rw (← c.self.view_is) at c.requires in
    rw c.as_slice.ensures (λ k d within. sym (rows-told_there c.self.inside.inbox.records c.self.inside.board.told _ c.self.invariant.each_told) ∙ there k d within)

pub invariant_of-self : goal.invariant_of-self
invariant_of-self c = rw (c.tell_all.ensures, c.as_slice.ensures) (record {
  each_told = told_all-length c.args.numbers.now (record { serial = c.args.serial; perms = c.args.perms }) c.self.inside.board.told ∙ c.self.invariant.each_told;
  owned = c.self.invariant.owned;
  made = c.self.invariant.made;
})

pub returns-clause-state : goal.returns-clause-state
returns-clause-state c =
    let old = c.self.inside in
    rw (← c.self.view_is, c.tell_all.ensures, c.as_slice.ensures)
    (ap (λ (rows : List ReceivedRow). let r : State = record { host = old.host; moment = old.shares.moment; users = old.users.users; shares = old.shares.shares; limits = old.limits; nodes = old.files.nodes; received = rows; requests = old.inbox.requests; sent = old.outbox.sent } in r)
    (rows-told_all old.inbox.records old.board.told c.args.numbers.now (record { serial = c.args.serial; perms = c.args.perms })))
