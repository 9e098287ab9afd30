use Rattle.std.proofs.Common.{◌∙◌, sym}
use Rattle.ocm_tables.proofs.Received.{rows-length}
use Rattle.ocm_tables.proofs.tables.Tables.record_count.Goals as goal

pub returns : goal.returns
returns c = rw (← c.self.view_is) (c.counts.ensures.records ∙ sym (rows-length c.self.inside.inbox.records c.self.inside.board.told c.self.invariant.each_told))
