use Rattle.std.proofs.Common.{rules, ◌≡◌, ℕ, List, ◌∷◌, sym, refl, subst, Option, Some}
use Rattle.atomic_table.specs.Table.{rest}
use Rattle.ocm_turn.specs.declared.behind.Behind.{Behind}
use Rattle.ocm_turn.proofs.HandLemmas.{hand_same}
use Rattle.ocm_turn.proofs.board.TurnTable.look.Goals as goal

pub slot_mut-requires : goal.slot_mut-requires
slot_mut-requires g c = let t = c.requires.value in (search rules, (Some t.0, subst (λ (l : List (ℕ × Option (Behind g.row.T.Denot))). l ≡ (0, Some t.0) ∷ rest l) (sym t.1) refl))

pub returns-clause-value : goal.returns-clause-value
returns-clause-value g c = hand_same g.T.Object.terms g.T.Object.stands g.T.Dated.came g.T.Object.legal g.T.Dated.awaited g.T.Dated.moment c.args.seat.now.me c.args.seat.now.me.0.found c.args.seat.now.me.0.found_moments c.args.seat.now.me.0.lent c.requires.value c.slot_mut.result.now c.in-Some.behind c.slot_mut.ensures.value c.in-Some.is
