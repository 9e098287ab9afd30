use Rattle.std.proofs.Common.{◌≡◌, ℕ, zero, suc, ◌-◌, ◌<◌, ◌≤◌, List, [], ◌∷◌, ◌++◌, length, map, refl, sym, ap, ◌∙◌, arith}
use Rattle.std.specs.Prelude.{Some, slice_get, slice_set, option_map}
use Rattle.std.proofs.lemmas.Option.{slice_get-map}
use Rattle.ocm_rules.specs.Numbers.{at_number}

-- the one of a number stands one place before it
pub at_number-place : {X : Type 0} (xs : List X) (i : ℕ) → 1 ≤ i → at_number xs i ≡ slice_get xs (i - 1)
at_number-place xs zero low = absurd (omega (arith, low))
at_number-place xs (suc i) low = let e : i ≡ suc i - 1 = omega arith in ap (slice_get xs) e

-- the one of a number among the images
pub at_number-map : {X Y : Type 0} (f : X → Y) (xs : List X) (i : ℕ) → at_number (map f xs) i ≡ option_map f (at_number xs i)
at_number-map f xs zero = refl
at_number-map f xs (suc i) = slice_get-map f xs i

-- what stands in a list stands there with one more behind it
pub slice_get-front : {X : Type 0} (xs : List X) (y : X) (i : ℕ) → i < length xs → slice_get (xs ++ y ∷ []) i ≡ slice_get xs i
slice_get-front [] y i h = absurd (omega (arith, h))
slice_get-front (x ∷ xs) y zero h = refl
slice_get-front (x ∷ xs) y (suc i) h = slice_get-front xs y i (omega (arith, h))

pub slice_get-last : {X : Type 0} (xs : List X) (y : X) → slice_get (xs ++ y ∷ []) (length xs) ≡ Some y
slice_get-last [] y = refl
slice_get-last (x ∷ xs) y = slice_get-last xs y

-- the shares keep their numbers with one more behind them
pub at_number-front : {X : Type 0} (xs : List X) (y : X) (i : ℕ) → i ≤ length xs → at_number (xs ++ y ∷ []) i ≡ at_number xs i
at_number-front xs y zero h = refl
at_number-front xs y (suc i) h = slice_get-front xs y i (omega (arith, h))

-- what a set leaves in its place
pub slice_get-set : {X : Type 0} (xs : List X) (k : ℕ) (x y : X) → slice_get xs k ≡ Some x → slice_get (slice_set xs k y) k ≡ Some y
slice_get-set [] k x y h = absurd (cc)
slice_get-set (z ∷ zs) zero x y h = refl
slice_get-set (z ∷ zs) (suc k) x y h = slice_get-set zs k x y h

-- and elsewhere
pub slice_get-other : {X : Type 0} (xs : List X) (k j : ℕ) (y : X) → (j ≡ k → ⊥) → slice_get (slice_set xs k y) j ≡ slice_get xs j
slice_get-other [] k j y h = refl
slice_get-other (z ∷ zs) zero zero y h = absurd (h refl)
slice_get-other (z ∷ zs) zero (suc j) y h = refl
slice_get-other (z ∷ zs) (suc k) zero y h = refl
slice_get-other (z ∷ zs) (suc k) (suc j) y h = slice_get-other zs k j y (λ e. h (ap (λ n. suc n) e))

pub length-slice_set : {X : Type 0} (xs : List X) (k : ℕ) (y : X) → length (slice_set xs k y) ≡ length xs
length-slice_set [] k y = refl
length-slice_set (z ∷ zs) zero y = refl
length-slice_set (z ∷ zs) (suc k) y = ap (λ n. suc n) (length-slice_set zs k y)

-- an image after a set of what has the same image
pub map-same_set : {X Y : Type 0} (f : X → Y) (xs : List X) (k : ℕ) (x y : X) → slice_get xs k ≡ Some x → f y ≡ f x → map f (slice_set xs k y) ≡ map f xs
map-same_set f [] k x y h e = refl
map-same_set f (z ∷ zs) zero x y h e = let same : z ≡ x = cc in ap (λ v. v ∷ map f zs) (e ∙ ap f (sym same))
map-same_set f (z ∷ zs) (suc k) x y h e = ap (λ rest. f z ∷ rest) (map-same_set f zs k x y h e)

-- an image after a set
pub map-slice_set : {X Y : Type 0} (f : X → Y) (xs : List X) (k : ℕ) (y : X) → map f (slice_set xs k y) ≡ slice_set (map f xs) k (f y)
map-slice_set f [] k y = refl
map-slice_set f (z ∷ zs) zero y = refl
map-slice_set f (z ∷ zs) (suc k) y = ap (λ rest. f z ∷ rest) (map-slice_set f zs k y)
