use Rattle.std.proofs.Common.{◌≡◌, ℕ, zero, suc, ◌+◌, List, [], ◌∷◌, length, map, Bool, true, false, cond, Some, refl, ap, arith}
use Rattle.std.specs.Prelude.{nat_lt, slice_get, filter, count_by, ◌||◌}
use Rattle.std.specs.List.{list_any, range_with_len}
use Rattle.std.specs.Option.{option_map}
use Rattle.std.proofs.lemmas.Bool.Decides.{nat_tests}
use Rattle.std.proofs.lemmas.List.{length-map}
use Rattle.std.proofs.lemmas.List.Sums.{sum_by-cons}
use Rattle.ocm_rules.specs.Numbers.{at_number, numbers}
use Rattle.ocm_incoming.specs.Groups.{one_if, numbers_from, numbers_where}

-- ---- a test of numbers and a test of rows

-- a test of numbers that says of the number of each row what a test says of the row
abbrev pub Agree : {X : Type 0} → (ℕ → Bool) → (X → Bool) → ℕ → List X → Type 0
Agree P p n [] = Unit {0}
Agree P p n (x ∷ xs) = (P n ≡ p x) × Agree P p (n + 1) xs

agree-from : {X : Type 0} (P : ℕ → Bool) (p : X → Bool) (n : ℕ) (xs : List X) → ((i m : ℕ) (x : X) → m ≡ n + i → slice_get xs i ≡ Some x → P m ≡ p x) → Agree P p n xs
agree-from P p n [] h = tt
agree-from P p n (x ∷ xs) h = (h 0 n x (omega arith) refl, agree-from P p (n + 1) xs (λ i m y e g. h (suc i) m y (omega (arith, e)) g))

number-at : {X : Type 0} (xs : List X) (i m : ℕ) (x : X) → m ≡ 1 + i → slice_get xs i ≡ Some x → at_number xs m ≡ Some x
number-at xs i zero x e g = absurd (omega (arith, e))
number-at xs i (suc m) x e g = let same : m ≡ i = omega (arith, e) in rw same g

-- a test of the row of a number
pub agree-rows : {X : Type 0} (P : ℕ → Bool) (p : X → Bool) (xs : List X) → ((m : ℕ) (x : X) → at_number xs m ≡ Some x → P m ≡ p x) → Agree P p 1 xs
agree-rows P p xs h = agree-from P p 1 xs (λ i m x e g. h m x (number-at xs i m x e g))

slice_get-map : {X Y : Type 0} (f : X → Y) (xs : List X) (i : ℕ) → slice_get (map f xs) i ≡ option_map f (slice_get xs i)
slice_get-map f [] i = refl
slice_get-map f (x ∷ xs) zero = refl
slice_get-map f (x ∷ xs) (suc i) = slice_get-map f xs i

-- a part of the row of a number
pub at_number-map : {X Y : Type 0} (f : X → Y) (xs : List X) (n : ℕ) → at_number (map f xs) n ≡ option_map f (at_number xs n)
at_number-map f xs zero = refl
at_number-map f xs (suc i) = slice_get-map f xs i

filter-step : (a b : Bool) (n : ℕ) (xs ys : List ℕ) → a ≡ b → xs ≡ ys → cond a (n ∷ xs) xs ≡ cond b (n ∷ ys) ys
filter-step a b n xs ys e f = rw (e, f) refl

filter-numbers : {X : Type 0} (P : ℕ → Bool) (p : X → Bool) (n : ℕ) (xs : List X) → Agree P p n xs → filter P (range_with_len n (length xs)) ≡ numbers_from p n xs
filter-numbers P p n [] h = refl
filter-numbers P p n (x ∷ xs) h = filter-step (P n) (p x) n _ _ h.0 (filter-numbers P p (n + 1) xs h.1)

count-numbers : {X : Type 0} (P : ℕ → Bool) (p : X → Bool) (n : ℕ) (xs : List X) → Agree P p n xs → count_by P (range_with_len n (length xs)) ≡ count_by p xs
count-numbers P p n [] h = refl
count-numbers P p n (x ∷ xs) h =
    let left = sum_by-cons (λ m. one_if (P m)) n (range_with_len (n + 1) (length xs)) in
    let right = sum_by-cons (λ y. one_if (p y)) x xs in
    let rest = count-numbers P p (n + 1) xs h.1 in
    let one : one_if (P n) ≡ one_if (p x) = ap one_if h.0 in
    omega (arith, left, right, rest, one)

any-numbers : {X : Type 0} (P : ℕ → Bool) (p : X → Bool) (n : ℕ) (xs : List X) → Agree P p n xs → list_any P (range_with_len n (length xs)) ≡ list_any p xs
any-numbers P p n [] h = refl
any-numbers P p n (x ∷ xs) h = let rest = any-numbers P p (n + 1) xs h.1 in let one = h.0 in rw (one, rest) refl

-- the numbers that pass are those of the rows that pass
pub filter-rows : {X Y : Type 0} (f : X → Y) (P : ℕ → Bool) (p : X → Bool) (xs : List X) → Agree P p 1 xs → filter P (numbers (map f xs)) ≡ numbers_where p xs
filter-rows f P p xs h = rw length-map (filter-numbers P p 1 xs h)

pub count-rows : {X Y : Type 0} (f : X → Y) (P : ℕ → Bool) (p : X → Bool) (xs : List X) → Agree P p 1 xs → count_by P (numbers (map f xs)) ≡ count_by p xs
count-rows f P p xs h = rw length-map (count-numbers P p 1 xs h)

pub any-rows : {X Y : Type 0} (f : X → Y) (P : ℕ → Bool) (p : X → Bool) (xs : List X) → Agree P p 1 xs → list_any P (numbers (map f xs)) ≡ list_any p xs
any-rows f P p xs h = rw length-map (any-numbers P p 1 xs h)

-- ---- a test of rows and a test of what is made of them

numbers_from-made : {X Y : Type 0} (f : X → Y) (q : Y → Bool) (p : X → Bool) (n : ℕ) (xs : List X) → ((x : X) → q (f x) ≡ p x) → numbers_from q n (map f xs) ≡ numbers_from p n xs
numbers_from-made f q p n [] h = refl
numbers_from-made f q p n (x ∷ xs) h = filter-step (q (f x)) (p x) n _ _ (h x) (numbers_from-made f q p (n + 1) xs h)

pub numbers_where-made : {X Y : Type 0} (f : X → Y) (q : Y → Bool) (p : X → Bool) (xs : List X) → ((x : X) → q (f x) ≡ p x) → numbers_where q (map f xs) ≡ numbers_where p xs
numbers_where-made f q p xs h = numbers_from-made f q p 1 xs h

pub count_by-made : {X Y : Type 0} (f : X → Y) (q : Y → Bool) (p : X → Bool) (xs : List X) → ((x : X) → q (f x) ≡ p x) → count_by q (map f xs) ≡ count_by p xs
count_by-made f q p [] h = refl
count_by-made f q p (x ∷ xs) h =
    let left = sum_by-cons (λ y. one_if (q y)) (f x) (map f xs) in
    let right = sum_by-cons (λ y. one_if (p y)) x xs in
    let rest = count_by-made f q p xs h in
    let one : one_if (q (f x)) ≡ one_if (p x) = ap one_if (h x) in
    omega (arith, left, right, rest, one)

-- ---- rows of which none passes

-- a row is there that passes exactly where they are counted
pub counted-any : {X : Type 0} (p : X → Bool) (xs : List X) → nat_lt 0 (count_by p xs) ≡ list_any p xs
counted-any p [] = grind (arith, nat_tests)
counted-any p (x ∷ xs) = step (p x) (sum_by-cons (λ y. one_if (p y)) x xs) (counted-any p xs)
  where
    step : (b : Bool) → count_by p (x ∷ xs) ≡ one_if b + count_by p xs → nat_lt 0 (count_by p xs) ≡ list_any p xs → nat_lt 0 (count_by p (x ∷ xs)) ≡ (b || list_any p xs)
    step true e rest = rw e (grind (arith, nat_tests))
    step false e rest = let same : count_by p (x ∷ xs) ≡ count_by p xs = omega (arith, e) in rw same rest

-- the numbers that pass are those of the rows themselves that pass
pub filter-own : {X : Type 0} (P : ℕ → Bool) (p : X → Bool) (xs : List X) → Agree P p 1 xs → filter P (numbers xs) ≡ numbers_where p xs
filter-own P p xs h = filter-numbers P p 1 xs h
