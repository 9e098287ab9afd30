-- Lists of views, one of which changes.
use Rattle.std.proofs.Common.{◌≡◌, ℕ, zero, suc, ◌≢◌, ⊎_elim, List, [], ◌∷◌, ◌++◌, set, refl, sym, ap, ◌∙◌, subst, Bool, true, false, Option, Some, None, unwrap_or}
use mathlib.Core.Option as home
use mathlib.Core.Option.{some-injective, some-ne-none}
use lib.ListN.{get_elem?}
use mathlib.Core.Logic.{dite}
use native.Mathlib.Decide.{ℕ_discrete}
use Rattle.atomic_table.proofs.Lists.{at_set, set_else, at_snoc, at_longer}
use Rattle.ocm_turn.specs.declared.view.Call.{Call}
use Rattle.ocm_turn.specs.declared.view.View.{View}
use Rattle.ocm_turn.specs.declared.view.Stage.{Stage}
use Rattle.ocm_turn.specs.declared.view.Stage.TheVariants.{New, Named, Spent}
use Rattle.ocm_turn.specs.Calls.{Disjoint}
use Rattle.ocm_turn.specs.Rule.{Sees, EachView, SomeView, OneHand, AllApart}
use Rattle.ocm_turn.proofs.CallLemmas.{disjoint_sym, disjoint_none}

module _ {A : Type 0} where
  pub here_again : (l : List A) (i : ℕ) (a b : A) → get_elem? l i ≡ home.some a → get_elem? (set l i b) i ≡ home.some b
  here_again [] i a b e = absurd (some-ne-none a (sym e))
  here_again (x ∷ xs) zero a b e = refl
  here_again (x ∷ xs) (suc i) a b e = here_again xs i a b e

  pub set_swap : (l : List A) (i j : ℕ) (a b : A) → i ≢ j → set (set l i a) j b ≡ set (set l j b) i a
  set_swap [] i j a b n = refl
  set_swap (x ∷ xs) zero zero a b n = absurd (n refl)
  set_swap (x ∷ xs) zero (suc j) a b n = refl
  set_swap (x ∷ xs) (suc i) zero a b n = refl
  set_swap (x ∷ xs) (suc i) (suc j) a b n = λ k. x ∷ set_swap xs i j a b (λ e. n (ap suc e)) k

  pub alone : (j : ℕ) (w v : A) → get_elem? (w ∷ []) j ≡ home.some v → (w ≡ v) × (j ≡ 0)
  alone zero w v e = (some-injective w v e, refl)
  alone (suc j) w v e = absurd (some-ne-none v (sym e))

pub same_some : {A : Type 0} (a b : A) → Some a ≡ Some b → a ≡ b
same_some {A} a b e = ap (λ (o : Option A). unwrap_or o a) e

pub no_ticket : (t : ℕ) → None ≡ Some t → ⊥
no_ticket t e = subst (λ (o : Option ℕ). elim o as (λ _. Type 0) [ None ↦ Unit {0} | Some _ ↦ ⊥ ]) e tt

pub not_both : false ≡ true → ⊥
not_both e = subst (λ (b : Bool). elim b as (λ _. Type 0) [ false ↦ Unit {0} | true ↦ ⊥ ]) e tt

IsNew : Stage → Type 0
IsNew New = Unit {0}
IsNew Named = ⊥
IsNew Spent = ⊥

IsSpent : Stage → Type 0
IsSpent New = ⊥
IsSpent Named = ⊥
IsSpent Spent = Unit {0}

pub new_named : New ≡ Named → ⊥
unfolding IsNew
new_named e = subst IsNew e tt

pub spent_new : Spent ≡ New → ⊥
unfolding IsSpent
spent_new e = subst IsSpent e tt

pub spent_named : Spent ≡ Named → ⊥
unfolding IsSpent
spent_named e = subst IsSpent e tt

-- one view in place of another
module _ {G M : Type 0} (views : List (View G M)) (id : ℕ) (v w : View G M) (at : Sees views id v) where
  pub some_set : (P : View G M → Type 0) → (P v → P w) → SomeView views P → SomeView (set views id w) P
  some_set P f s = dite (ℕ_discrete s.0 id)
      (λ same. (id, w, here_again views id v w at, f (subst P (some-injective s.1 v (sym s.2 ∙ (ap (get_elem? views) same ∙ at))) s.3)))
      (λ other. (s.0, s.1, set_else views id s.0 w other ∙ s.2, s.3))

  pub each_set : (P Q : View G M → Type 0) → ((j : ℕ) (u : View G M) → j ≢ id → Sees views j u → P u → Q u) → Q w → EachView views P → EachView (set views id w) Q
  each_set P Q f q all j u e = ⊎_elim
      (λ (m : (j ≡ id) × (w ≡ u)). subst Q m.1 q)
      (λ (m : (j ≢ id) × Sees views j u). f j u m.0 m.1 (all j u m.1)) (at_set views id j w u e)

  pub one_hand_set : OneHand views → ((t j : ℕ) (u : View G M) → w.ticket ≡ Some t → j ≢ id → Sees views j u → u.ticket ≡ Some t → ⊥) → OneHand (set views id w)
  one_hand_set old fresh i j u z t ei ej ti tj = ⊎_elim
      (λ (m : (i ≡ id) × (w ≡ u)). ⊎_elim
      (λ (n : (j ≡ id) × (w ≡ z)). m.0 ∙ sym n.0)
      (λ (n : (j ≢ id) × Sees views j z). absurd (fresh t j z (ap (λ (y : View G M). y.ticket) m.1 ∙ ti) n.0 n.1 tj)) (at_set views id j w z ej))
      (λ (m : (i ≢ id) × Sees views i u). ⊎_elim
      (λ (n : (j ≡ id) × (w ≡ z)). absurd (fresh t i u (ap (λ (y : View G M). y.ticket) n.1 ∙ tj) m.0 m.1 ti))
      (λ (n : (j ≢ id) × Sees views j z). old i j u z t m.1 n.1 ti tj) (at_set views id j w z ej)) (at_set views id i w u ei)

  pub apart_set : AllApart views → ((j : ℕ) (u : View G M) → j ≢ id → Sees views j u → Disjoint w.mine u.mine) → AllApart (set views id w)
  apart_set old parts i j u z ne ei ej = ⊎_elim
      (λ (m : (i ≡ id) × (w ≡ u)). ⊎_elim
      (λ (n : (j ≡ id) × (w ≡ z)). absurd (ne (m.0 ∙ sym n.0)))
      (λ (n : (j ≢ id) × Sees views j z). subst (λ (y : View G M). Disjoint y.mine z.mine) m.1 (parts j z n.0 n.1)) (at_set views id j w z ej))
      (λ (m : (i ≢ id) × Sees views i u). ⊎_elim
      (λ (n : (j ≡ id) × (w ≡ z)). subst (λ (y : View G M). Disjoint u.mine y.mine) n.1 (disjoint_sym w.mine u.mine (parts i u m.0 m.1)))
      (λ (n : (j ≢ id) × Sees views j z). old i j u z ne m.1 n.1) (at_set views id j w z ej)) (at_set views id i w u ei)

-- one view more
module _ {G M : Type 0} (views : List (View G M)) (w : View G M) where
  pub some_added : (P : View G M → Type 0) → SomeView views P → SomeView (views ++ w ∷ []) P
  some_added P s = (s.0, s.1, at_longer views (w ∷ []) s.0 s.1 s.2, s.3)

  pub each_added : (P : View G M → Type 0) → P w → EachView views P → EachView (views ++ w ∷ []) P
  each_added P p all j u e = ⊎_elim (λ (m : Sees views j u). all j u m) (λ (m : w ≡ u). subst P m p) (at_snoc views w u j e)

  pub one_hand_added : OneHand views → w.ticket ≡ None → OneHand (views ++ w ∷ [])
  one_hand_added old none i j u z t ei ej ti tj =
      let idle : (y : View G M) → w ≡ y → y.ticket ≡ Some t → ⊥ = λ y e has. no_ticket t (sym none ∙ (ap (λ (x : View G M). x.ticket) e ∙ has)) in
      ⊎_elim
      (λ (m : Sees views i u). ⊎_elim (λ (n : Sees views j z). old i j u z t m n ti tj) (λ (n : w ≡ z). absurd (idle z n tj)) (at_snoc views w z j ej))
      (λ (m : w ≡ u). absurd (idle u m ti)) (at_snoc views w u i ei)

  pub apart_added : AllApart views → w.mine ≡ [] → AllApart (views ++ w ∷ [])
  apart_added old none i j u z ne ei ej = ⊎_elim
      (λ (m : Sees views i u). ⊎_elim
      (λ (n : Sees views j z). old i j u z ne m n)
      (λ (n : w ≡ z). subst (Disjoint u.mine) (sym none ∙ ap (λ (y : View G M). y.mine) n) (disjoint_none u.mine)) (at_snoc views w z j ej))
      (λ (m : w ≡ u). subst (λ (cs : List Call). Disjoint cs z.mine) (sym none ∙ ap (λ (y : View G M). y.mine) m) tt) (at_snoc views w u i ei)
