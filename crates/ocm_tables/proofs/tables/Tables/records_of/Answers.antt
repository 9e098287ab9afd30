use Rattle.std.proofs.Common.{◌≡◌, List, filter, sym, subst, IfOk}
use Rattle.ocm_types.specs.declared.letters.Offer.{Offer}
use Rattle.ocm_rules.specs.Numbers.{numbers}
use Rattle.ocm_tables.specs.Tables.{is_offer_for}
use Rattle.ocm_tables.proofs.Received.{rows-offers}
use Rattle.ocm_tables.proofs.tables.Tables.records_of.Goals as goal

pub returns : goal.returns
returns c =
    let P : List Offer → Type 0 = λ offers. IfOk c.records_of.result (λ ns. ns ≡ filter (is_offer_for offers c.args.user.now) (numbers offers)) in
    rw (← c.self.view_is) (subst P (sym (rows-offers c.self.inside.inbox.records c.self.inside.board.told c.self.invariant.each_told)) c.records_of.ensures)
