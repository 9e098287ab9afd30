use Rattle.std.specs.Prelude.{List, [], ◌∷◌}

-- two lists as one, item by item, as far as both go
abbrev pub joined : {A B C : Type 0} → (A → B → C) → List A → List B → List C
joined f [] ys = []
joined f (x ∷ xs) [] = []
joined f (x ∷ xs) (y ∷ ys) = f x y ∷ joined f xs ys
