use Rattle.std.proofs.Common.{rules, sym, ap, ◌∙◌, subst, Option, Some}
use Rattle.atomic_table.specs.Table.{Me}
use Rattle.ocm_turn.specs.declared.behind.Behind.{Behind}
use Rattle.ocm_turn.specs.declared.view.View.{View}
use Rattle.ocm_turn.specs.Steps.{StandsAt, TurnCame}
use Rattle.ocm_turn.proofs.LookKeeps.{looks_keep}
use Rattle.ocm_turn.proofs.board.TurnTable.wait_turn.Goals as goal

pub load-done-requires : goal.load-done-requires
load-done-requires g c = (search rules, search rules, looks_keep _ _ _ _ _ _ _ _ _ _ (search rules) (search rules) (search rules) (search rules))

pub returns-then-done-ticket-clause-turn : goal.returns-then-done-ticket-clause-turn
returns-then-done-ticket-clause-turn g c =
    let same = c.loop.invariant.1 in
    let has = ap (λ (m : Me (Option (Behind g.row.T.Denot)) (View g.row.T-Terms.Denot g.row.T-Mark.Denot)). m.0.ticket) same ∙ (c.requires.ticket.0 ∙ ap Some (sym c.if-done-ticket.true)) in
    subst (λ (m : Me (Option (Behind g.row.T.Denot)) (View g.row.T-Terms.Denot g.row.T-Mark.Denot)). TurnCame g.T.Object.terms (StandsAt g.T.Object.stands g.T.Dated.came) g.T.Object.legal g.T.Dated.awaited g.L.Limited.limit m c.load-done.new.seat.me)
    same (c.load-done.ensures.2.0 has)
