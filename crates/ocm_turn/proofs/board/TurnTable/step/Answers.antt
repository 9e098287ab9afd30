use Rattle.std.proofs.Common.{rules, ◌≡◌, ◌≢◌, ℕ, List, ◌∷◌, sym, refl, ◌∙◌, ap, subst, Option, Some, None}
use Rattle.std.specs.Prelude.{Result, IfOk, IfErr}
use Rattle.atomic_table.specs.Table.{rest}
use Rattle.ocm_turn.specs.declared.behind.Behind.{Behind}
use Rattle.ocm_entry.specs.declared.asks.Ask.{Ask}
use Rattle.ocm_entry.specs.declared.replies.Reply.{Reply}
use Rattle.ocm_turn.specs.Calls.{entry}
use Rattle.ocm_turn.specs.Steps.{HasInHand, StandsAt}
use Rattle.ocm_turn.proofs.HandLemmas.{More, Stays, the_ok, no_ok, if_err, awaits_found, hand_more, hand_stays}
use Rattle.ocm_turn.proofs.board.TurnTable.step.Goals as goal
use Rattle.ocm_turn.proofs.board.TurnTable.step.Goals.{in-Ok, in_default}

pub slot_mut-requires : goal.slot_mut-requires
slot_mut-requires g c = let t = c.requires.value in (search rules, (Some t.0, subst (λ (l : List (ℕ × Option (Behind g.row.T.Denot))). l ≡ (0, Some t.0) ∷ rest l) (sym t.1) refl))

pub returns-clause-replied : goal.returns-clause-replied
returns-clause-replied g c =
    let me = c.args.seat.now.me in
    let v = me.0 in
    let Hand : Behind g.row.T.Denot → Reply → Type 0 = λ z r. HasInHand g.T.Object.terms (StandsAt g.T.Object.stands g.T.Dated.came) g.T.Object.legal g.T.Dated.awaited (v, (0, Some z) ∷ rest me.1) (entry c.args.ask r ∷ v.found) (g.T.Dated.moment c.of-now.result.value ∷ v.found_moments) v.lent in
    elim c.match-stepped.branch [
      | in-Ok w ↦
          let r = w.in-Ok.field-0 in
          let Told : Reply → Type 0 = λ x. (g.T.Dated.awaited c.step-stepped.new.self ≡ g.T.Dated.awaited c.in-Some.behind.value) × More g.T.Object.terms g.T.Object.stands g.T.Dated.came g.T.Object.legal g.T.Dated.moment c.in-Some.behind.value c.step-stepped.new.self (entry c.args.ask x) in
          let told = the_ok c.step-stepped.result Told r w.in-Ok.is c.step-stepped.ensures.replied in
          subst (λ (b : Result Reply Ask). IfOk b (Hand c.match-stepped.behind)) (sym w.in-Ok.is)
          (subst (λ (z : Behind g.row.T.Denot). Hand z r) (sym w.behind-is)
          (hand_more g.T.Object.terms g.T.Object.stands g.T.Dated.came g.T.Object.legal g.T.Dated.awaited g.T.Dated.moment c.args.seat.now.me c.args.seat.now.me.0.found c.args.seat.now.me.0.found_moments c.args.seat.now.me.0.lent c.requires.value c.slot_mut.result.now c.in-Some.behind c.slot_mut.ensures.value c.in-Some.is
          c.step-stepped.new.self v.lent c.step-stepped.ensures.terms (told.0 ∙ awaits_found g.T.Object.terms g.T.Object.stands g.T.Dated.came g.T.Object.legal g.T.Dated.awaited g.T.Dated.moment c.args.seat.now.me c.args.seat.now.me.0.found c.args.seat.now.me.0.found_moments c.args.seat.now.me.0.lent c.requires.value c.slot_mut.result.now c.in-Some.behind c.slot_mut.ensures.value c.in-Some.is)
          (entry c.args.ask r) c.of-now.result.value (c.of-now.ensures ∙ ap (λ (z : Behind g.row.T.Denot). z.value) w.behind-is) told.1))
      | in_default w ↦ no_ok c.step-stepped.result (Hand c.match-stepped.behind) w.in_default.not-Ok
    ]

pub returns-clause-busy : goal.returns-clause-busy
returns-clause-busy g c =
    let me = c.args.seat.now.me in
    let v = me.0 in
    let Hand : Behind g.row.T.Denot → Type 0 = λ z. HasInHand g.T.Object.terms (StandsAt g.T.Object.stands g.T.Dated.came) g.T.Object.legal g.T.Dated.awaited (v, (0, Some z) ∷ rest me.1) v.found v.found_moments v.lent in
    let found = awaits_found g.T.Object.terms g.T.Object.stands g.T.Dated.came g.T.Object.legal g.T.Dated.awaited g.T.Dated.moment c.args.seat.now.me c.args.seat.now.me.0.found c.args.seat.now.me.0.found_moments c.args.seat.now.me.0.lent c.requires.value c.slot_mut.result.now c.in-Some.behind c.slot_mut.ensures.value c.in-Some.is in
    let Told : Ask → Type 0 = λ again. (again ≡ c.args.ask) × Hand c.match-stepped.behind × (v.lent ≢ None) in
    elim c.match-stepped.branch [
      | in-Ok w ↦ subst (λ (b : Result Reply Ask). IfErr b Told) (sym w.in-Ok.is) tt
      | in_default w ↦ if_err c.step-stepped.result (λ again. (again ≡ c.args.ask) × (g.T.Dated.awaited c.step-stepped.new.self ≡ g.T.Dated.awaited c.in-Some.behind.value) × (g.T.Dated.awaited c.in-Some.behind.value ≢ None))
          (λ again. Stays g.T.Object.terms g.T.Object.stands g.T.Dated.came g.T.Object.legal c.in-Some.behind.value c.step-stepped.new.self) Told
          (λ again told stays. (
            told.0,
            subst Hand (sym w.behind-is)
                (hand_stays g.T.Object.terms g.T.Object.stands g.T.Dated.came g.T.Object.legal g.T.Dated.awaited g.T.Dated.moment c.args.seat.now.me c.args.seat.now.me.0.found c.args.seat.now.me.0.found_moments c.args.seat.now.me.0.lent c.requires.value c.slot_mut.result.now c.in-Some.behind c.slot_mut.ensures.value c.in-Some.is
                c.step-stepped.new.self v.lent c.step-stepped.ensures.terms (told.1 ∙ found) stays),
            λ none. told.2 (found ∙ none),
          )) c.step-stepped.ensures.busy c.step-stepped.ensures.stays
    ]
