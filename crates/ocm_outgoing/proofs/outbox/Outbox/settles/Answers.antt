use Rattle.std.proofs.Common.{◌≡◌}
use Rattle.std.specs.Prelude.{option_copied}
use Rattle.ocm_rules.specs.declared.rows.Message.{Message}
use Rattle.ocm_rules.specs.Settlements.{settles}
use Rattle.ocm_outgoing.proofs.Reading.{message-holds}
use Rattle.ocm_outgoing.proofs.Settled.{row-there}
use Rattle.ocm_outgoing.proofs.outbox.Outbox.settles.Goals as goal

pub returns : goal.returns
returns c =
    let there = row-there c.self.inside.rows.items c.args.m c.index-row.result.now c.index-row.result.now (rw (← c.self.view_is) at c.requires) c.index-row.ensures in
    rw (← c.self.view_is) (message-holds (λ (message : Message). c.settles.result ≡ settles message.letter c.args.status (option_copied c.args.id)) c.self.inside.rows.items c.args.m c.index-row.result.now there (rw c.deref.ensures at c.settles.ensures))
