use Rattle.std.specs.Prelude.{ℕ, zero, suc, ◌+◌, List, [], ◌∷◌, ◌++◌, length, nat_eq, slice_get, Bool, false, if◌then◌else◌, Option, Some, None}
use Rattle.std.specs.List.{range_with_len}
use Rattle.std.specs.Option.{option_or, option_map_or}
use Rattle.std.specs.Cmp.Lexicographic.{pointwise}

-- whether two texts have the same bytes
abbrev pub same_text : List ℕ → List ℕ → Bool
same_text a b = pointwise nat_eq a b

-- a list with what an option holds behind it
abbrev pub added : {X : Type 0} → List X → Option X → List X
added xs None = xs
added xs (Some x) = xs ++ x ∷ []

-- the number of the first that passes, where the first of the list has this number
abbrev pub number_from : {X : Type 0} → (X → Bool) → ℕ → List X → Option ℕ
number_from p n [] = None
number_from p n (x ∷ xs) = if p x then Some n else number_from p (n + 1) xs

-- the number of the first that passes, counted from 1
abbrev pub number_of : {X : Type 0} → (X → Bool) → List X → Option ℕ
number_of p xs = number_from p 1 xs

-- the one of this number, counted from 1
abbrev pub at_number : {X : Type 0} → List X → ℕ → Option X
at_number xs zero = None
at_number xs (suc i) = slice_get xs i

-- the numbers of the items of a list, from 1 on
abbrev pub numbers : {X : Type 0} → List X → List ℕ
numbers xs = range_with_len 1 (length xs)

-- whether an option holds this number
abbrev pub is_number : ℕ → Option ℕ → Bool
is_number i o = option_map_or (nat_eq i) o false

-- what the first of a list tells that tells anything; of a list with the newest first, this is the last
abbrev pub latest : {X Y : Type 0} → (X → Option Y) → List X → Option Y
latest tells [] = None
latest tells (x ∷ older) = option_or (tells x) (latest tells older)
