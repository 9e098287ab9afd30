use Rattle.std.proofs.Common.{◌≡◌, ℕ, zero, suc, ◌+◌, ◌<◌, ◌≤◌, List, [], ◌∷◌, ◌++◌, length, Bool, true, false, ◌&&◌, refl, sym, ◌∙◌, cond, count_by, arith}
use Rattle.std.specs.Prelude.{Option, Some, None, slice_get, if◌then◌else◌}
use Rattle.std.specs.List.{list_all}
use Rattle.std.specs.Option.{option_map_or}
use Rattle.std.proofs.lemmas.List.Folds.{list_all-append}
use Rattle.std.proofs.lemmas.List.Recursion.{is_count_by}
use Rattle.ocm_rules.specs.Numbers.{added, at_number, number_of, number_from}

-- a test does not answer both
pub not_both : (b : Bool) → b ≡ true → b ≡ false → ⊥
not_both true h k = cc
not_both false h k = cc

-- both tests pass where both at once do
pub both_pass : (a b : Bool) → (a && b) ≡ true → (a ≡ true) × (b ≡ true)
both_pass true true h = (refl, refl)
both_pass true false h = absurd (cc)
both_pass false b h = absurd (cc)

-- a test of all, with one more
pub list_all-added : {X : Type 0} (p : X → Bool) (xs : List X) (o : Option X) → list_all p xs ≡ true → option_map_or p o true ≡ true → list_all p (added xs o) ≡ true
list_all-added p xs None h k = h
list_all-added p xs (Some x) h k = rw (list_all-append p xs (x ∷ []), h, k) refl

-- a test of all, with more
pub list_all-more : {X : Type 0} (p : X → Bool) (xs ys : List X) → list_all p xs ≡ true → list_all p ys ≡ true → list_all p (xs ++ ys) ≡ true
list_all-more p xs ys h k = rw (list_all-append p xs ys, h, k) refl

slice_get-all : {X : Type 0} (p : X → Bool) (xs : List X) → list_all p xs ≡ true → (i : ℕ) → option_map_or p (slice_get xs i) true ≡ true
slice_get-all p [] h i = refl
slice_get-all p (x ∷ xs) h zero = (both_pass (p x) (list_all p xs) h).0
slice_get-all p (x ∷ xs) h (suc i) = slice_get-all p xs (both_pass (p x) (list_all p xs) h).1 i

-- what holds of all holds of the one of a number
pub at_number-all : {X : Type 0} (p : X → Bool) (xs : List X) → list_all p xs ≡ true → (i : ℕ) → option_map_or p (at_number xs i) true ≡ true
at_number-all p xs h zero = refl
at_number-all p xs h (suc i) = slice_get-all p xs h i

some-injective : {X : Type 0} (x y : X) → Some x ≡ Some y → x ≡ y
some-injective x y h = cc

number_from-below : {X : Type 0} (p : X → Bool) (k : ℕ) (xs : List X) (n : ℕ) → number_from p k xs ≡ Some n → n < k + length xs
number_from-below p k [] n h = absurd (cc)
number_from-below p k (x ∷ xs) n h = by_test (number_from-below p (k + 1) xs n) (p x) h
  where
    by_test : (number_from p (k + 1) xs ≡ Some n → n < k + 1 + length xs) → (b : Bool) → (if b then Some k else number_from p (k + 1) xs) ≡ Some n → n < k + length (x ∷ xs)
    by_test further true g = let e = some-injective k n g in omega arith
    by_test further false g = let below = further g in omega arith

-- the number of the first that passes is at most the number of all
pub number_of-within : {X : Type 0} (p : X → Bool) (xs : List X) (n : ℕ) → number_of p xs ≡ Some n → n ≤ length xs
number_of-within p xs n h = let below = number_from-below p 1 xs n h in omega arith

how_many : {X : Type 0} → (X → Bool) → List X → ℕ
how_many p [] = 0
how_many p (x ∷ xs) = cond (p x) (1 + how_many p xs) (how_many p xs)

how_many-count : {X : Type 0} (p : X → Bool) (xs : List X) → how_many p xs ≡ count_by p xs
unfolding how_many
how_many-count p xs = is_count_by (how_many p) p refl (λ x ys. refl) xs

-- a count, with one more in front
pub count_by-cons : {X : Type 0} (p : X → Bool) (x : X) (xs : List X) → count_by p (x ∷ xs) ≡ (if p x then count_by p xs + 1 else count_by p xs)
unfolding how_many
count_by-cons p x xs = sym (how_many-count p (x ∷ xs)) ∙ rw (how_many-count p xs) (by_test (p x))
  where
    by_test : (b : Bool) → cond b (1 + count_by p xs) (count_by p xs) ≡ (if b then count_by p xs + 1 else count_by p xs)
    by_test true = omega arith
    by_test false = refl
