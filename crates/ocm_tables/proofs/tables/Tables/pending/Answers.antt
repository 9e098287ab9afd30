use Rattle.std.proofs.Common.{◌∙◌}
use Rattle.ocm_tables.proofs.Received.{rows-pending}
use Rattle.ocm_tables.proofs.tables.Tables.pending.Goals as goal

pub returns : goal.returns
returns c = rw (← c.self.view_is) (c.pending.ensures ∙ rows-pending c.self.inside.inbox.records c.self.inside.board.told c.args.user.now c.self.invariant.each_told)
