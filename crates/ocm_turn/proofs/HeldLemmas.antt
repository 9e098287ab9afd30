-- Which view has the mark that is awaited.
use Rattle.std.proofs.Common.{◌≡◌, ◌≢◌, ℕ, ⊎_elim, List, [], ◌∷◌, ◌++◌, set, sym, ap, ◌∙◌, Option, Some, None}
use mathlib.Core.Logic.{dite}
use mathlib.Core.Option.{some-injective}
use native.Mathlib.Decide.{ℕ_discrete}
use lib.ListN.{get_elem?}
use Rattle.atomic_table.proofs.Lists.{at_set, set_else, at_snoc, at_longer}
use Rattle.ocm_turn.specs.declared.view.View.{View}
use Rattle.ocm_turn.specs.Rule.{Sees, IsHeld}
use Rattle.ocm_turn.proofs.CallLemmas.{none_some}
use Rattle.ocm_turn.proofs.ViewLemmas.{here_again, each_set, each_added}

-- one view in place of another
module _ {G M : Type 0} (views : List (View G M)) (id : ℕ) (v w : View G M) (at : Sees views id v) where
  -- a seat that is seen twice is one
  same_view : (j : ℕ) (u : View G M) → Sees views j u → j ≡ id → u ≡ v
  same_view j u e here = some-injective u v (sym e ∙ (ap (get_elem? views) here ∙ at))

  -- with the same mark
  pub held_set : (awaited : Option M) → w.held ≡ v.held → IsHeld awaited views → IsHeld awaited (set views id w)
  held_set None same h = each_set views id v w at (λ u. u.held ≡ None) (λ u. u.held ≡ None) (λ j u _ _ e. e) (same ∙ h id v at) h
  held_set (Some mark) same h = dite (ℕ_discrete h.0 id)
      (λ here. (
        id,
        w,
        here_again views id v w at,
        (
          same ∙ (ap (λ (u : View G M). u.held) (sym (same_view h.0 h.1 h.2 here)) ∙ h.3.0),
          λ i u ne ei. ⊎_elim (λ (m : (i ≡ id) × (w ≡ u)). absurd (ne m.0)) (λ (m : (i ≢ id) × Sees views i u). h.3.1 i u (λ e. ne (e ∙ here)) m.1) (at_set views id i w u ei),
        ),
      ))
      (λ other. (
        h.0,
        h.1,
        set_else views id h.0 w other ∙ h.2,
        (
          h.3.0,
          λ i u ne ei. ⊎_elim (λ (m : (i ≡ id) × (w ≡ u)). ap (λ (y : View G M). y.held) (sym m.1) ∙ (same ∙ h.3.1 id v (λ e. other (sym e)) at)) (λ (m : (i ≢ id) × Sees views i u). h.3.1 i u ne m.1)
              (at_set views id i w u ei),
        ),
      ))

  -- with a mark where none had one
  pub held_begun : (mark : M) → w.held ≡ Some mark → IsHeld None views → IsHeld (Some mark) (set views id w)
  held_begun mark has h = (id, w, here_again views id v w at, (has, λ i u ne ei. ⊎_elim (λ (m : (i ≡ id) × (w ≡ u)). absurd (ne m.0)) (λ (m : (i ≢ id) × Sees views i u). h i u m.1) (at_set views id i w u ei)))

  -- a view that has a mark has the one that is awaited
  pub held_is : (awaited : Option M) (mark : M) → v.held ≡ Some mark → IsHeld awaited views → awaited ≡ Some mark
  held_is None mark has h = absurd (none_some mark (sym (h id v at) ∙ has))
  held_is (Some other) mark has h = dite (ℕ_discrete h.0 id) (λ here. sym h.3.0 ∙ (ap (λ (u : View G M). u.held) (same_view h.0 h.1 h.2 here) ∙ has))
      (λ not_here. absurd (none_some mark (sym (h.3.1 id v (λ e. not_here (sym e)) at) ∙ has)))

  -- with no mark where it had the one that was awaited
  pub held_ended : (awaited : Option M) (mark : M) → v.held ≡ Some mark → w.held ≡ None → IsHeld awaited views → IsHeld None (set views id w)
  held_ended None mark has none h = absurd (none_some mark (sym (h id v at) ∙ has))
  held_ended (Some other) mark has none h = λ j u ej. ⊎_elim (λ (m : (j ≡ id) × (w ≡ u)). ap (λ (y : View G M). y.held) (sym m.1) ∙ none)
      (λ (m : (j ≢ id) × Sees views j u). dite (ℕ_discrete h.0 id) (λ here. h.3.1 j u (λ e. m.0 (e ∙ here)) m.1) (λ not_here. absurd (none_some mark (sym (h.3.1 id v (λ e. not_here (sym e)) at) ∙ has))))
      (at_set views id j w u ej)

-- one view more, with no mark
pub held_added : {G M : Type 0} (views : List (View G M)) (w : View G M) (awaited : Option M) → w.held ≡ None → IsHeld awaited views → IsHeld awaited (views ++ w ∷ [])
held_added views w None none h = each_added views w (λ u. u.held ≡ None) none h
held_added {G} {M} views w (Some mark) none h = (
  h.0,
  h.1,
  at_longer views (w ∷ []) h.0 h.1 h.2,
  (h.3.0, λ i u ne ei. ⊎_elim (λ (m : Sees views i u). h.3.1 i u ne m) (λ (m : w ≡ u). ap (λ (y : View G M). y.held) (sym m) ∙ none) (at_snoc views w u i ei)),
)
