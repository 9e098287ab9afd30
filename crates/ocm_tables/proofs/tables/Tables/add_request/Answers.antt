use Rattle.std.proofs.Common.{◌∙◌, sym}
use Rattle.ocm_tables.proofs.Received.{rows-there}
use Rattle.ocm_tables.proofs.tables.Tables.add_request.Goals as goal

pub ask-number-requires-clause-there : goal.ask-number-requires-clause-there
ask-number-requires-clause-there c =
    let there = rw (← c.self.view_is) at c.requires.fits.record_ in
    sym (rows-there c.self.inside.inbox.records c.self.inside.board.told c.args.request.received c.self.invariant.each_told) ∙ there
