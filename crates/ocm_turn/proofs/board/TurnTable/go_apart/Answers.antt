use Rattle.std.proofs.Common.{◌≡◌, ◌∷◌, sym, ap, ◌∙◌, subst, Option, Some}
use Rattle.atomic_table.specs.Table.{Me}
use Rattle.ocm_turn.specs.declared.behind.Behind.{Behind}
use Rattle.ocm_turn.specs.declared.view.View.{View}
use Rattle.ocm_turn.specs.Calls.{entry}
use Rattle.ocm_turn.specs.Steps.{HasInHand, StandsAt, left_awaited}
use Rattle.ocm_turn.proofs.board.TurnTable.go_apart.Goals as goal

-- the value waits for the work of this call
pub end-reply-requires-clause-value : goal.end-reply-requires-clause-value
end-reply-requires-clause-value g c =
    let turn = c.take_turn.ensures.turn.1 in
    let m = c.take_turn.new.seat.me in
    subst (λ (a : Option g.row.T-Mark.Denot). HasInHand g.T.Object.terms (StandsAt g.T.Object.stands g.T.Dated.came) g.T.Object.legal g.T.Dated.awaited m m.0.found m.0.found_moments a)
    (turn.10 (g.T.Dated.mark c.args.work) (ap (λ (z : (Me (Option (Behind g.row.T.Denot)) (View g.row.T-Terms.Denot g.row.T-Mark.Denot))). z.0.held) c.set_apart.ensures.view) ∙ ap Some (sym c.carry_out.ensures.mark)) turn.1

-- and for none behind it
pub finish-requires-clause-value : goal.finish-requires-clause-value
finish-requires-clause-value g c =
    let m = c.end-reply.new.seat.me in
    let held : m.0.held ≡ Some (g.T.Dated.mark c.args.work) =
    ap (λ (v : (View g.row.T-Terms.Denot g.row.T-Mark.Denot)). v.held) c.end-reply.ensures.own.1 ∙ (ap (λ (v : (View g.row.T-Terms.Denot g.row.T-Mark.Denot)). v.held) c.take_turn.ensures.turn.1.0 ∙ ap (λ (z : (Me (Option (Behind g.row.T.Denot)) (View g.row.T-Terms.Denot g.row.T-Mark.Denot))). z.0.held) c.set_apart.ensures.view) in
    subst (λ (a : Option g.row.T-Mark.Denot). HasInHand g.T.Object.terms (StandsAt g.T.Object.stands g.T.Dated.came) g.T.Object.legal g.T.Dated.awaited m (entry c.args.said.now.value c.end-reply.result.0 ∷ m.0.found) (g.T.Dated.moment c.end-reply.result.1.value ∷ m.0.found_moments) a)
    (sym (ap (λ (o : Option g.row.T-Mark.Denot). left_awaited o m.0.lent) held)) (c.end-reply.ensures.ended c.args.said.now.value (c.carry_out.ensures.is_for c.args.said.now.value c.requires.work))
