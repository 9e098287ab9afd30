use Rattle.std.proofs.Common.{◌≡◌, List, [], ◌∷◌, ◌++◌, Bool, true, false, refl, subst}
use Rattle.std.specs.Prelude.{Option, Some, None, if◌then◌else◌}
use Rattle.ocm_entry.specs.declared.rows.Place.{Place}
use Rattle.ocm_entry.specs.declared.rows.Node.{Node}
use Rattle.ocm_entry.specs.declared.rows.Standing.{Standing}
use Rattle.ocm_rules.specs.Files.{same_place}
use Rattle.ocm_rules.specs.State.{node_at, EachOnce}
use Rattle.ocm_rules.proofs.Places.{same_place-refl, same_place-equal}

some-none : (b : Bool) (standing : Standing) (older : Option Standing) → b ≡ true → (if b then Some standing else older) ≡ None → ⊥
some-none true standing older e f = cc
some-none false standing older e f = cc

later-none : (b : Bool) (standing : Standing) (older : Option Standing) → (if b then Some standing else older) ≡ None → older ≡ None
later-none true standing older f = absurd (cc)
later-none false standing older f = f

-- something stands at the place of a node among others
stands-middle : (xs : List Node) (n : Node) (ys : List Node) → node_at (xs ++ n ∷ ys) n.place ≡ None → ⊥
stands-middle [] n ys g = some-none (same_place n.place n.place) n.standing (node_at ys n.place) (same_place-refl n.place) g
stands-middle (x ∷ xs) n ys g = stands-middle xs n ys (later-none (same_place x.place n.place) x.standing (node_at (xs ++ n ∷ ys) n.place) g)

-- nothing stands yet at the place of a node in the middle, among the nodes before it
pub once-middle : (xs : List Node) (n : Node) (ys : List Node) → EachOnce (xs ++ n ∷ ys) → node_at xs n.place ≡ None
once-middle [] n ys h = refl
once-middle (m ∷ xs) n ys h = by_test (once-middle xs n ys h.1) (stands-middle xs n ys) (same_place m.place n.place) refl
  where
    by_test : node_at xs n.place ≡ None → (node_at (xs ++ n ∷ ys) n.place ≡ None → ⊥) → (b : Bool) → same_place m.place n.place ≡ b → (if b then Some m.standing else node_at xs n.place) ≡ None
    by_test rest stands true e = absurd (stands (subst (λ (p : Place). node_at (xs ++ n ∷ ys) p ≡ None) (same_place-equal m.place n.place e) h.0))
    by_test rest stands false e = rest
