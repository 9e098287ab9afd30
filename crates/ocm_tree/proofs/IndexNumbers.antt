use Rattle.std.proofs.Common.{◌≡◌, ℕ, ◌+◌, List, [], ◌∷◌, ◌++◌, Bool, true, false, cond, Option, Some, None, refl, ap}
use Rattle.std.specs.Prelude.{option_map}
use Rattle.ocm_entry.specs.declared.rows.Node.{Node}
use Rattle.ocm_rules.specs.Files.{same_place, with_node}
use Rattle.ocm_tree.specs.Tables.{index_of}

-- one item more before those behind which one is added
pub push-step : {X : Type 0} (b : Bool) (inner : Option ℕ) (m n : X) (ms others : List X) → (inner ≡ None → others ≡ ms ++ n ∷ []) →
    cond b (Some 0) (option_map (λ k. k + 1) inner) ≡ None → cond b (n ∷ ms) (m ∷ others) ≡ m ∷ (ms ++ n ∷ [])
push-step true inner m n ms others h e = absurd (cc)
push-step false None m n ms others h e = ap (λ l. m ∷ l) (h refl)
push-step false (Some j) m n ms others h e = absurd (cc)

-- a node that stands where nothing stood is the last
pub push-with_node : (ns : List Node) (n : Node) → index_of ns n.place ≡ None → with_node ns n ≡ ns ++ n ∷ []
push-with_node [] n e = refl
push-with_node (m ∷ ms) n e = push-step (same_place m.place n.place) (index_of ms n.place) m n ms (with_node ms n) (push-with_node ms n) e
