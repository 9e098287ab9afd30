use Rattle.std.proofs.Common.{◌∙◌, sym, ap}
use Rattle.ocm_rules.specs.Offers.{is_known}
use Rattle.ocm_tables.proofs.Received.{rows-offers}
use Rattle.ocm_tables.proofs.tables.Tables.is_known.Goals as goal

pub returns : goal.returns
returns c = rw (← c.self.view_is) (c.is_some.ensures ∙ (c.same.ensures.known ∙ ap (λ offers. is_known offers c.args.offer.now) (sym (rows-offers c.self.inside.inbox.records c.self.inside.board.told c.self.invariant.each_told))))
