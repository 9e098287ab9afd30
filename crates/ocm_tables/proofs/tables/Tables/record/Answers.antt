use Rattle.std.proofs.Common.{◌∙◌, sym}
use Rattle.ocm_tables.proofs.Received.{rows-record}
use Rattle.ocm_tables.proofs.tables.Tables.record.Goals as goal

pub returns : goal.returns
returns c = rw (← c.self.view_is) (c.received.ensures ∙ sym (rows-record c.self.inside.inbox.records c.self.inside.board.told c.args.number c.self.invariant.each_told))
