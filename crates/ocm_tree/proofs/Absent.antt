use Rattle.std.proofs.Common.{◌≡◌, ℕ, ◌+◌, List, [], ◌∷◌, Bool, true, false, refl, ap, ◌∙◌}
use Rattle.std.specs.Prelude.{Option, Some, None, option_map, is_some, if◌then◌else◌}
use Rattle.ocm_entry.specs.declared.rows.Place.{Place}
use Rattle.ocm_entry.specs.declared.rows.Node.{Node}
use Rattle.ocm_rules.specs.Files.{same_place}
use Rattle.ocm_rules.specs.State.{node_at}
use Rattle.ocm_tree.specs.Tables.{index_of}

mapped-some : (o : Option ℕ) → is_some (option_map (λ i. i + 1) o) ≡ is_some o
mapped-some None = refl
mapped-some (Some i) = refl

-- a place has a number exactly where something stands
pub index_of-node_at : (ns : List Node) (place : Place) → is_some (index_of ns place) ≡ is_some (node_at ns place)
index_of-node_at [] place = refl
index_of-node_at (n ∷ ns) place = by_test (index_of-node_at ns place) (same_place n.place place)
  where
    by_test : is_some (index_of ns place) ≡ is_some (node_at ns place) → (b : Bool) → is_some (if b then Some 0 else option_map (λ i. i + 1) (index_of ns place)) ≡ is_some (if b then Some n.standing else node_at ns place)
    by_test rest true = refl
    by_test rest false = mapped-some (index_of ns place) ∙ rest

none-from : (o : Option ℕ) → is_some o ≡ false → o ≡ None
none-from None h = refl
none-from (Some i) h = absurd (cc)

-- a place at which nothing stands has no number
pub index_of-absent : (ns : List Node) (place : Place) → node_at ns place ≡ None → index_of ns place ≡ None
index_of-absent ns place h = none-from (index_of ns place) (index_of-node_at ns place ∙ ap is_some h)
