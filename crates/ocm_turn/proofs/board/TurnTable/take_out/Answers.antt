use Rattle.std.proofs.Common.{rules, ◌≡◌, ℕ, List, [], ◌∷◌, sym, refl, ap, ◌∙◌, subst, Option, Some}
use Rattle.atomic_table.specs.Table.{rest}
use Rattle.ocm_turn.specs.declared.behind.Behind.{Behind}
use Rattle.ocm_turn.proofs.board.TurnTable.take_out.Goals as goal

pub exchange-requires : goal.exchange-requires
exchange-requires g c = let t = c.requires.holds in (search rules, (Some t.0, subst (λ (l : List (ℕ × Option (Behind g.row.T.Denot))). l ≡ (0, Some t.0) ∷ rest l) (sym t.1) refl))

pub returns : goal.returns
returns g c = record {
  value = (
    c.unwrap.result.calls,
    c.exchange.ensures.2 ∙ ((λ i. (0, c.unwrap.ensures i) ∷ ap rest c.requires.holds.1 i) ∙ λ i. (0, Some (record { value = sym c.into_parts.ensures.0 i; calls = c.unwrap.result.calls })) ∷ []),
  );
}
