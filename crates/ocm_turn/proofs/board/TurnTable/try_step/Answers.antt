use Rattle.std.proofs.Common.{arith, ◌≡◌, ◌∷◌, length, sym, ap, ◌∙◌, subst, Option, None}
use Rattle.atomic_table.specs.Table.{Me}
use Rattle.ocm_entry.specs.declared.asks.Ask.{Ask}
use Rattle.ocm_turn.specs.declared.behind.Behind.{Behind}
use Rattle.ocm_turn.specs.declared.view.View.{View}
use Rattle.ocm_turn.specs.Calls.{entry}
use Rattle.ocm_turn.specs.Steps.{HasInHand, StandsAt, refused, left_awaited}
use Rattle.ocm_turn.proofs.HandLemmas.{the_ok}
use Rattle.ocm_turn.proofs.board.TurnTable.try_step.Goals as goal

pub returns-then-calls-self-clause-refused : goal.returns-then-calls-self-clause-refused
returns-then-calls-self-clause-refused g c =
    let turn = c.take_turn.ensures.turn.1 in
    let v = c.take_turn.new.seat.me.0 in
    let same = c.look-calls.ensures.own.1 in
    let calls = c.look-calls.ensures.calls in
    let over = c.if-calls-self.true in
    let as_long : length c.look-calls.new.seat.me.0.found ≡ length v.found = ap (λ (u : (View g.row.T-Terms.Denot g.row.T-Mark.Denot)). length u.found) same in (
      v.found,
      v.found_moments,
      v.lent,
      ap (λ (z : (Me (Option (Behind g.row.T.Denot)) (View g.row.T-Terms.Denot g.row.T-Mark.Denot))). z.0) c.refuse.ensures.view ∙ ap refused (same ∙ turn.0),
      omega (arith, calls, over, as_long),
      turn.7,
    )

-- a call that was not set apart leaves what is awaited as it is
pub finish-requires-clause-value : goal.finish-requires-clause-value
finish-requires-clause-value g c =
    let m = c.step-stepped.new.seat.me in
    let r = c.in-Ok.reply in
    let held : m.0.held ≡ None =
    ap (λ (v : (View g.row.T-Terms.Denot g.row.T-Mark.Denot)). v.held) (c.step-stepped.ensures.own.1 ∙ (c.look-calls.ensures.own.1 ∙ c.take_turn.ensures.turn.1.0)) ∙ c.requires.own.1.3 in
    subst (λ (z : Ask × Option g.row.T-Mark.Denot). HasInHand g.T.Object.terms (StandsAt g.T.Object.stands g.T.Dated.came) g.T.Object.legal g.T.Dated.awaited m (entry z.0 r ∷ m.0.found) (g.T.Dated.moment c.step-stepped.result.1.value ∷ m.0.found_moments) z.1)
    (λ i. (sym c.requires.said i, sym (ap (λ (o : Option g.row.T-Mark.Denot). left_awaited o m.0.lent) held) i)) (the_ok c.step-stepped.result.0 _ r c.in-Ok.is c.step-stepped.ensures.replied)
