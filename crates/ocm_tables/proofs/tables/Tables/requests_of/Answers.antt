use Rattle.std.proofs.Common.{◌≡◌, List, filter, sym, subst, IfOk}
use Rattle.ocm_types.specs.declared.letters.Offer.{Offer}
use Rattle.ocm_rules.specs.Numbers.{numbers}
use Rattle.ocm_tables.specs.Tables.{is_request_for}
use Rattle.ocm_tables.proofs.Received.{rows-offers}
use Rattle.ocm_tables.proofs.tables.Tables.requests_of.Goals as goal

pub returns : goal.returns
returns c =
    let P : List Offer → Type 0 = λ offers. IfOk c.requests_of.result (λ ns. ns ≡ filter (is_request_for offers c.self.inside.inbox.requests c.args.user.now) (numbers c.self.inside.inbox.requests)) in
    rw (← c.self.view_is) (subst P (sym (rows-offers c.self.inside.inbox.records c.self.inside.board.told c.self.invariant.each_told)) c.requests_of.ensures)
