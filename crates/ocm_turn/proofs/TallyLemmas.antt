-- Numbers of all views, added up: their calls, and their parts.
use Rattle.std.proofs.Common.{◌≡◌, ◌≢◌, ℕ, zero, suc, ◌+◌, ◌<◌, ◌≤◌, List, [], ◌∷◌, ◌++◌, length, set, refl, sym, ap, ◌∙◌, arith, true, false, cond, Bool}
use Rattle.std.specs.Prelude.{nat_lt}
use Rattle.std.proofs.lemmas.Bool.{ltb-true, ltb-false}
use mathlib.Core.Option.{some-injective, some-ne-none}
use Rattle.ocm_turn.specs.declared.view.View.{View}
use Rattle.ocm_turn.specs.declared.view.Stage.TheVariants.{Named}
use Rattle.ocm_turn.specs.Passes.{all_parts}
use Rattle.ocm_turn.specs.Rule.{Sees, EachView, total, calls_of, parts_of, HasPart, Tally}
use Rattle.ocm_turn.specs.Steps.{parted, beside}
use Rattle.ocm_turn.proofs.ViewLemmas.{each_set, each_added}

module _ {G M : Type 0} where
  module _ (f : View G M → ℕ) where
    pub total_set : (views : List (View G M)) (id : ℕ) (v w : View G M) → Sees views id v → total f (set views id w) + f v ≡ total f views + f w
    total_set [] id v w at = absurd (some-ne-none v (sym at))
    total_set (x ∷ xs) zero v w at = let same : f x ≡ f v = ap f (some-injective x v at) in omega (arith, same)
    total_set (x ∷ xs) (suc id) v w at = let k = total_set xs id v w at in omega (arith, k)

    pub total_added : (views : List (View G M)) (w : View G M) → total f (views ++ w ∷ []) ≡ total f views + f w
    total_added [] w = omega arith
    total_added (x ∷ xs) w = let k = total_added xs w in omega (arith, k)

    total_at : (views : List (View G M)) (id : ℕ) (v : View G M) → Sees views id v → f v ≤ total f views
    total_at [] id v at = absurd (some-ne-none v (sym at))
    total_at (x ∷ xs) zero v at = let same : f x ≡ f v = ap f (some-injective x v at) in omega (arith, same)
    total_at (x ∷ xs) (suc id) v at = let k = total_at xs id v at in omega (arith, k)

  module _ (f g : View G M → ℕ) where
    total_none : (views : List (View G M)) → total f views ≡ 0 → EachView views (λ u. f u ≡ 0 → g u ≡ 0) → total g views ≡ 0
    total_none [] e h = refl
    total_none (x ∷ xs) e h =
        let here : g x ≡ 0 = h 0 x refl (omega (arith, e)) in
        let others = total_none xs (omega (arith, e)) (λ j. h (suc j)) in
        omega (arith, here, others)

    -- where one view has all of f, and each that has none of f has none of g, it has all of g
    total_one : (views : List (View G M)) (id : ℕ) (v : View G M) → Sees views id v → total f views ≡ f v → EachView views (λ u. f u ≡ 0 → g u ≡ 0) → total g views ≡ g v
    total_one [] id v at e h = absurd (some-ne-none v (sym at))
    total_one (x ∷ xs) zero v at e h =
        let one : x ≡ v = some-injective x v at in
        let same : f x ≡ f v = ap f one in
        let same_too : g x ≡ g v = ap g one in
        let others = total_none xs (omega (arith, e, same)) (λ j. h (suc j)) in
        omega (arith, same_too, others)
    total_one (x ∷ xs) (suc id) v at e h =
        let low = total_at f xs id v at in
        let here : g x ≡ 0 = h 0 x refl (omega (arith, e, low)) in
        let others = total_one xs id v at (omega (arith, e, low)) (λ j. h (suc j)) in
        omega (arith, here, others)

  -- one view with more calls and the same parts
  pub tally_set : (views : List (View G M)) (id : ℕ) (v w : View G M) → Sees views id v → (n m : ℕ) → length w.mine + n ≡ length v.mine + m → w.parts ≡ v.parts → w.stage ≡ v.stage → Tally n views → Tally m (set views id w)
  tally_set views id v w at n m more parts stage h =
      let calls = total_set calls_of views id v w at in
      let all = total_set parts_of views id v w at in
      let counted = h.counted in
      let most = h.most in
      let same : total parts_of (set views id w) ≡ total parts_of views = omega (arith, all, parts) in
      record {
        counted = omega (arith, calls, counted, more);
        most = omega (arith, same, most);
        held = λ e. let old = h.held (sym same ∙ e) in each_set views id v w at HasPart HasPart (λ j u _ _ f. f) (λ named. let f : 0 < v.parts = old id v at (sym stage ∙ named) in omega (arith, f, parts)) old;
      }

  -- one part given to a view more, or lost
  pub tally_split : (views : List (View G M)) (id : ℕ) (v : View G M) → Sees views id v → v.stage ≡ Named → (n : ℕ) → Tally n views → Tally n (set views id (parted v) ++ beside v ∷ [])
  tally_split views id v at named n h = elim (nat_lt 1 v.parts) as (λ b. nat_lt 1 v.parts ≡ b → Goal) [
    | true ↦ λ e.
        let some = ltb-true 1 v.parts e in
        let one : (beside v).parts ≡ 1 = ap (λ (b : Bool). cond b 1 0) e in
        let same : total parts_of after ≡ total parts_of views = omega (arith, parts, added, some, one) in
        record {
          counted = counted;
          most = omega (arith, same, most);
          held = λ e. each_added before (beside v) HasPart (λ _. omega (arith, one)) (each_set views id v (parted v) at HasPart HasPart (λ j u _ _ f. f) (λ _. omega (arith, some)) (h.held (sym same ∙ e)));
        }
    | false ↦ λ e.
        let few = ltb-false 1 v.parts e in
        let none : (beside v).parts ≡ 0 = ap (λ (b : Bool). cond b 1 0) e in
        record {
          counted = counted;
          most = omega (arith, parts, added, few, none, most);
          held = λ e. let all : total parts_of views ≡ all_parts = omega (arith, parts, added, few, none, most, e) in
              let some : 0 < v.parts = h.held all id v at named in absurd (omega (arith, parts, added, few, none, all, some, e));
        }
  ] refl
    where
      before : List (View G M)
      before = set views id (parted v)

      after : List (View G M)
      after = before ++ beside v ∷ []

      Goal : Type 0
      Goal = Tally n after

      parts : total parts_of before + v.parts ≡ total parts_of views + (parted v).parts
      parts = total_set parts_of views id v (parted v) at

      added : total parts_of after ≡ total parts_of before + (beside v).parts
      added = total_added parts_of before (beside v)

      most : total parts_of views ≤ all_parts
      most = h.most

      counted : total calls_of after ≡ n
      counted = let a = total_set calls_of views id v (parted v) at in let b = total_added calls_of before (beside v) in let c = h.counted in omega (arith, a, b, c)

  -- who has all parts has made all calls
  pub all_mine : (views : List (View G M)) (id : ℕ) (v : View G M) → Sees views id v → (n : ℕ) → Tally n views → EachView views (λ u. u.stage ≢ Named → u.mine ≡ []) → v.parts ≡ all_parts → length v.mine ≡ n
  all_mine views id v at n h idle all =
      let low = total_at parts_of views id v at in
      let most = h.most in
      let whole : total parts_of views ≡ v.parts = omega (arith, low, most, all) in
      let rest : EachView views (λ u. u.parts ≡ 0 → length u.mine ≡ 0) = λ j u at' none. ap length (idle j u at' (λ named. let some : 0 < u.parts = h.held (whole ∙ all) j u at' named in omega (arith, some, none))) in
      sym (total_one parts_of calls_of views id v at whole rest) ∙ h.counted
