use Rattle.std.proofs.Common.{◌≡◌, List, false, filter, sym, subst, IfOk}
use Rattle.std.specs.Option.{option_map_or}
use Rattle.ocm_types.specs.declared.letters.Offer.{Offer}
use Rattle.ocm_rules.specs.Numbers.{at_number, numbers}
use Rattle.ocm_rules.specs.Offers.{is_of}
use Rattle.ocm_tables.proofs.Received.{rows-offers}
use Rattle.ocm_tables.proofs.tables.Tables.received_with.Goals as goal

pub returns : goal.returns
returns c =
    let P : List Offer → Type 0 = λ offers. IfOk c.with.result (λ ns. ns ≡ filter (λ n. option_map_or (is_of c.args.mark.now.id c.args.mark.now.secret) (at_number offers n) false) (numbers offers)) in
    rw (← c.self.view_is) (subst P (sym (rows-offers c.self.inside.inbox.records c.self.inside.board.told c.self.invariant.each_told)) c.with.ensures)
