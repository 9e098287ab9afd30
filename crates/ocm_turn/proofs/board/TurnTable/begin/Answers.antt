use Rattle.std.proofs.Common.{rules, ◌≡◌, ◌≢◌, ℕ, List, ◌∷◌, sym, refl, ap, ◌∙◌, subst, Option, Some, None}
use Rattle.atomic_table.specs.Table.{rest}
use Rattle.ocm_turn.specs.declared.behind.Behind.{Behind}
use Rattle.ocm_entry.specs.declared.asks.Ask.{Ask}
use Rattle.ocm_entry.specs.declared.replies.Reply.{Reply}
use Rattle.ocm_turn.specs.declared.dated.Begun.{Begun}
use Rattle.ocm_turn.specs.Begun.{IfReplied, IfApart, IfBusy, IsNoReply}
use Rattle.ocm_turn.specs.Calls.{entry}
use Rattle.ocm_turn.specs.Steps.{HasInHand, StandsAt}
use Rattle.ocm_turn.proofs.HandLemmas.{More, the_reply, no_reply, if_apart, if_busy, awaits_found, hand_more, hand_stays}
use Rattle.ocm_turn.proofs.board.TurnTable.begin.Goals as goal
use Rattle.ocm_turn.proofs.board.TurnTable.begin.Goals.{in-Replied, in_default}

pub slot_mut-requires : goal.slot_mut-requires
slot_mut-requires g c = let t = c.requires.value in (search rules, (Some t.0, subst (λ (l : List (ℕ × Option (Behind g.row.T.Denot))). l ≡ (0, Some t.0) ∷ rest l) (sym t.1) refl))

pub returns-clause-replied : goal.returns-clause-replied
returns-clause-replied g c =
    let me = c.args.seat.now.me in
    let v = me.0 in
    let Hand : Behind g.row.T.Denot → Reply → Type 0 = λ z r. HasInHand g.T.Object.terms (StandsAt g.T.Object.stands g.T.Dated.came) g.T.Object.legal g.T.Dated.awaited (v, (0, Some z) ∷ rest me.1) (entry c.args.ask r ∷ v.found) (g.T.Dated.moment c.of-now.result.value ∷ v.found_moments) v.lent in
    elim c.match-begun.branch [
      | in-Replied w ↦
          let r = w.in-Replied.field-0 in
          let Told : Reply → Type 0 = λ x. (g.T.Dated.awaited c.begin-begun.new.self ≡ g.T.Dated.awaited c.in-Some.behind.value) × More g.T.Object.terms g.T.Object.stands g.T.Dated.came g.T.Object.legal g.T.Dated.moment c.in-Some.behind.value c.begin-begun.new.self (entry c.args.ask x) in
          let told = the_reply c.begin-begun.result Told r w.in-Replied.is c.begin-begun.ensures.replied in
          subst (λ (b : Begun g.row.T-Work.Denot). IfReplied b (Hand c.match-begun.behind)) (sym w.in-Replied.is)
          (subst (λ (z : Behind g.row.T.Denot). Hand z r) (sym w.behind-is)
          (hand_more g.T.Object.terms g.T.Object.stands g.T.Dated.came g.T.Object.legal g.T.Dated.awaited g.T.Dated.moment c.args.seat.now.me c.args.seat.now.me.0.found c.args.seat.now.me.0.found_moments c.args.seat.now.me.0.lent c.requires.value c.slot_mut.result.now c.in-Some.behind c.slot_mut.ensures.value c.in-Some.is
          c.begin-begun.new.self v.lent c.begin-begun.ensures.terms (told.0 ∙ awaits_found g.T.Object.terms g.T.Object.stands g.T.Dated.came g.T.Object.legal g.T.Dated.awaited g.T.Dated.moment c.args.seat.now.me c.args.seat.now.me.0.found c.args.seat.now.me.0.found_moments c.args.seat.now.me.0.lent c.requires.value c.slot_mut.result.now c.in-Some.behind c.slot_mut.ensures.value c.in-Some.is)
          (entry c.args.ask r) c.of-now.result.value (c.of-now.ensures ∙ ap (λ (z : Behind g.row.T.Denot). z.value) w.behind-is) told.1))
      | in_default w ↦ no_reply c.begin-begun.result (Hand c.match-begun.behind) w.in_default.not-Replied
    ]

pub returns-clause-apart : goal.returns-clause-apart
returns-clause-apart g c =
    let me = c.args.seat.now.me in
    let v = me.0 in
    let Hand : Behind g.row.T.Denot → g.row.T-Work.Denot → Type 0 = λ z work. HasInHand g.T.Object.terms (StandsAt g.T.Object.stands g.T.Dated.came) g.T.Object.legal g.T.Dated.awaited (v, (0, Some z) ∷ rest me.1) v.found v.found_moments (Some (g.T.Dated.mark work)) in
    let Told : g.row.T-Work.Denot → Type 0 = λ work. (v.lent ≡ None) × g.T.Dated.is_for work c.args.ask × Hand c.match-begun.behind work in
    elim c.match-begun.branch [
      | in-Replied w ↦ subst (λ (b : Begun g.row.T-Work.Denot). IfApart b Told) (sym w.in-Replied.is) tt
      | in_default w ↦ if_apart c.begin-begun.result
          (λ work. (g.T.Dated.awaited c.in-Some.behind.value ≡ None) × (g.T.Dated.awaited c.begin-begun.new.self ≡ Some (g.T.Dated.mark work)) × g.T.Dated.is_for work c.args.ask) Told
          (λ work is told. (
            sym (awaits_found g.T.Object.terms g.T.Object.stands g.T.Dated.came g.T.Object.legal g.T.Dated.awaited g.T.Dated.moment c.args.seat.now.me c.args.seat.now.me.0.found c.args.seat.now.me.0.found_moments c.args.seat.now.me.0.lent c.requires.value c.slot_mut.result.now c.in-Some.behind c.slot_mut.ensures.value c.in-Some.is) ∙ told.0,
            told.2,
            subst (λ (z : Behind g.row.T.Denot). Hand z work) (sym w.behind-is)
                (hand_stays g.T.Object.terms g.T.Object.stands g.T.Dated.came g.T.Object.legal g.T.Dated.awaited g.T.Dated.moment c.args.seat.now.me c.args.seat.now.me.0.found c.args.seat.now.me.0.found_moments c.args.seat.now.me.0.lent c.requires.value c.slot_mut.result.now c.in-Some.behind c.slot_mut.ensures.value c.in-Some.is
                c.begin-begun.new.self (Some (g.T.Dated.mark work)) c.begin-begun.ensures.terms told.1 (c.begin-begun.ensures.stays (subst IsNoReply (sym is) tt))),
          )) c.begin-begun.ensures.apart
    ]

pub returns-clause-busy : goal.returns-clause-busy
returns-clause-busy g c =
    let me = c.args.seat.now.me in
    let v = me.0 in
    let Hand : Behind g.row.T.Denot → Type 0 = λ z. HasInHand g.T.Object.terms (StandsAt g.T.Object.stands g.T.Dated.came) g.T.Object.legal g.T.Dated.awaited (v, (0, Some z) ∷ rest me.1) v.found v.found_moments v.lent in
    let found = awaits_found g.T.Object.terms g.T.Object.stands g.T.Dated.came g.T.Object.legal g.T.Dated.awaited g.T.Dated.moment c.args.seat.now.me c.args.seat.now.me.0.found c.args.seat.now.me.0.found_moments c.args.seat.now.me.0.lent c.requires.value c.slot_mut.result.now c.in-Some.behind c.slot_mut.ensures.value c.in-Some.is in
    let Told : Ask → Type 0 = λ again. (again ≡ c.args.ask) × Hand c.match-begun.behind × (v.lent ≢ None) in
    elim c.match-begun.branch [
      | in-Replied w ↦ subst (λ (b : Begun g.row.T-Work.Denot). IfBusy b Told) (sym w.in-Replied.is) tt
      | in_default w ↦ if_busy c.begin-begun.result (λ again. (again ≡ c.args.ask) × (g.T.Dated.awaited c.begin-begun.new.self ≡ g.T.Dated.awaited c.in-Some.behind.value) × (g.T.Dated.awaited c.in-Some.behind.value ≢ None)) Told
          (λ again is told. (
            told.0,
            subst Hand (sym w.behind-is)
                (hand_stays g.T.Object.terms g.T.Object.stands g.T.Dated.came g.T.Object.legal g.T.Dated.awaited g.T.Dated.moment c.args.seat.now.me c.args.seat.now.me.0.found c.args.seat.now.me.0.found_moments c.args.seat.now.me.0.lent c.requires.value c.slot_mut.result.now c.in-Some.behind c.slot_mut.ensures.value c.in-Some.is
                c.begin-begun.new.self v.lent c.begin-begun.ensures.terms (told.1 ∙ found) (c.begin-begun.ensures.stays (subst IsNoReply (sym is) tt))),
            λ none. told.2 (found ∙ none),
          )) c.begin-begun.ensures.busy
    ]
