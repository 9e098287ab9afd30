use Rattle.std.proofs.Common.{◌∙◌, sym, ap, is_some}
use Rattle.ocm_rules.specs.Numbers.{number_of}
use Rattle.ocm_rules.specs.Offers.{is_of}
use Rattle.ocm_tables.proofs.Received.{rows-offers}
use Rattle.ocm_tables.proofs.tables.Tables.is_received.Goals as goal

pub returns : goal.returns
returns c = rw (← c.self.view_is) (c.is_received.ensures ∙ ap (λ offers. is_some (number_of (is_of c.args.mark.now.id c.args.mark.now.secret) offers)) (sym (rows-offers c.self.inside.inbox.records c.self.inside.board.told c.self.invariant.each_told)))
