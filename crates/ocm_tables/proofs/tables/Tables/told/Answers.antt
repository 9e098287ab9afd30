use Rattle.std.proofs.Common.{◌∙◌, sym}
use Rattle.ocm_tables.proofs.Received.{rows-told, rows-told_there}
use Rattle.ocm_tables.proofs.tables.Tables.told.Goals as goal

pub told-requires : goal.told-requires
told-requires c =
    let there = rw (← c.self.view_is) at c.requires in
    sym (rows-told_there c.self.inside.inbox.records c.self.inside.board.told c.args.number c.self.invariant.each_told) ∙ there

pub returns : goal.returns
returns c = rw (← c.self.view_is) (sym (rows-told c.self.inside.inbox.records c.self.inside.board.told c.args.number c.told.result _ c.self.invariant.each_told c.told.ensures))
