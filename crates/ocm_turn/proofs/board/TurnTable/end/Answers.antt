use Rattle.std.proofs.Common.{rules, ◌≡◌, ℕ, List, ◌∷◌, sym, refl, subst, Option, Some, None}
use Rattle.atomic_table.specs.Table.{rest}
use Rattle.ocm_turn.specs.declared.behind.Behind.{Behind}
use Rattle.ocm_turn.specs.Calls.{entry}
use Rattle.ocm_turn.proofs.HandLemmas.{hand_more}
use Rattle.ocm_turn.proofs.board.TurnTable.end.Goals as goal

pub slot_mut-requires : goal.slot_mut-requires
slot_mut-requires g c = let t = c.requires.value in (search rules, (Some t.0, subst (λ (l : List (ℕ × Option (Behind g.row.T.Denot))). l ≡ (0, Some t.0) ∷ rest l) (sym t.1) refl))

pub returns-clause-ended : goal.returns-clause-ended
returns-clause-ended g c = λ ask for. hand_more g.T.Object.terms g.T.Object.stands g.T.Dated.came g.T.Object.legal g.T.Dated.awaited g.T.Dated.moment c.args.seat.now.me c.args.seat.now.me.0.found c.args.seat.now.me.0.found_moments (Some (g.T.Dated.mark c.args.work)) c.requires.value c.slot_mut.result.now c.in-Some.behind c.slot_mut.ensures.value c.in-Some.is
    c.end-reply.new.self None (c.end-reply.ensures.terms ask for) c.end-reply.ensures.awaited (entry ask c.end-reply.result) c.of-after.result.value c.of-after.ensures (c.end-reply.ensures.ended ask for)
