use Rattle.std.proofs.Common.{◌∙◌}
use Rattle.ocm_tables.proofs.Received.{rows-held}
use Rattle.ocm_tables.proofs.tables.Tables.is_held.Goals as goal

pub returns : goal.returns
returns c = rw (← c.self.view_is) (c.is_held.ensures ∙ rows-held c.self.inside.inbox.records c.self.inside.board.told c.args.mark.now.id c.args.mark.now.secret c.self.invariant.each_told)
