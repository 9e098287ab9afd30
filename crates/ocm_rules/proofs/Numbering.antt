use Rattle.std.proofs.Common.{◌≡◌, ℕ, zero, suc, ◌+◌, ◌<◌, ◌≤◌, List, [], ◌∷◌, ◌++◌, length, map, refl, ap, ◌∙◌, arith}
use Rattle.std.specs.Prelude.{Option, Some, None, slice_get, option_map}
use Rattle.ocm_rules.specs.Numbers.{added, at_number}
use Rattle.ocm_rules.specs.State.{map_numbered}

-- numbers behind an append
pub map_numbered-append : {X Y : Type 0} (f : ℕ → X → Y) (n : ℕ) (xs ys : List X) → map_numbered f n (xs ++ ys) ≡ map_numbered f n xs ++ map_numbered f (n + length xs) ys
map_numbered-append f n [] ys = let e : n ≡ n + 0 = omega arith in ap (λ k. map_numbered f k ys) e
map_numbered-append f n (x ∷ xs) ys =
    let e : n + 1 + length xs ≡ n + length (x ∷ xs) = omega arith in
    ap (λ rest. f n x ∷ rest) (map_numbered-append f (n + 1) xs ys ∙ ap (λ k. map_numbered f (n + 1) xs ++ map_numbered f k ys) e)

-- and behind one more
pub map_numbered-added : {X Y : Type 0} (f : ℕ → X → Y) (xs : List X) (o : Option X) → map_numbered f 1 (added xs o) ≡ added (map_numbered f 1 xs) (option_map (f (length xs + 1)) o)
map_numbered-added f xs None = refl
map_numbered-added f xs (Some x) =
    let e : 1 + length xs ≡ length xs + 1 = omega arith in
    map_numbered-append f 1 xs (x ∷ []) ∙ ap (λ k. map_numbered f 1 xs ++ f k x ∷ []) e

pub map_numbered-twice : {X Y Z : Type 0} (f : ℕ → Y → Z) (g : ℕ → X → Y) (n : ℕ) (xs : List X) → map_numbered f n (map_numbered g n xs) ≡ map_numbered (λ j x. f j (g j x)) n xs
map_numbered-twice f g n [] = refl
map_numbered-twice f g n (x ∷ xs) = ap (λ rest. f n (g n x) ∷ rest) (map_numbered-twice f g (n + 1) xs)

-- functions that are the same at each number in the list
pub map_numbered-within : {X Y : Type 0} (f g : ℕ → X → Y) (n : ℕ) (xs : List X) → ((j : ℕ) (x : X) → n ≤ j → j < n + length xs → f j x ≡ g j x) → map_numbered f n xs ≡ map_numbered g n xs
map_numbered-within f g n [] h = refl
map_numbered-within f g n (x ∷ xs) h =
    let first : f n x ≡ g n x = h n x (omega arith) (omega arith) in
    let rest : map_numbered f (n + 1) xs ≡ map_numbered g (n + 1) xs = map_numbered-within f g (n + 1) xs (λ j y low high. h j y (omega (arith, low)) (omega (arith, high))) in
    rw (first, rest) refl

pub map_numbered-alike : {X Y : Type 0} (f g : ℕ → X → Y) (n : ℕ) (xs : List X) → ((j : ℕ) (x : X) → f j x ≡ g j x) → map_numbered f n xs ≡ map_numbered g n xs
map_numbered-alike f g n xs h = map_numbered-within f g n xs (λ j x low high. h j x)

-- functions that do not look at the number
pub map_numbered-plain : {X Y : Type 0} (f : ℕ → X → Y) (g : X → Y) (n : ℕ) (xs : List X) → ((j : ℕ) (x : X) → n ≤ j → f j x ≡ g x) → map_numbered f n xs ≡ map g xs
map_numbered-plain f g n [] h = refl
map_numbered-plain f g n (x ∷ xs) h =
    let first : f n x ≡ g x = h n x (omega arith) in
    let rest : map_numbered f (n + 1) xs ≡ map g xs = map_numbered-plain f g (n + 1) xs (λ j y low. h j y (omega (arith, low))) in
    rw (first, rest) refl

-- a part of each row that the row was made of
pub map-map_numbered : {X Y : Type 0} (p : Y → X) (f : ℕ → X → Y) (n : ℕ) (xs : List X) → ((j : ℕ) (x : X) → p (f j x) ≡ x) → map p (map_numbered f n xs) ≡ xs
map-map_numbered p f n [] h = refl
map-map_numbered p f n (x ∷ xs) h = let first = h n x in let rest = map-map_numbered p f (n + 1) xs h in rw (first, rest) refl

slice_get-map_numbered : {X Y : Type 0} (f : ℕ → X → Y) (n : ℕ) (xs : List X) (i : ℕ) → slice_get (map_numbered f n xs) i ≡ option_map (f (n + i)) (slice_get xs i)
slice_get-map_numbered f n [] i = refl
slice_get-map_numbered f n (x ∷ xs) zero = let e : n ≡ n + 0 = omega arith in ap (λ k. Some (f k x)) e
slice_get-map_numbered f n (x ∷ xs) (suc i) =
    let e : n + 1 + i ≡ n + suc i = omega arith in
    slice_get-map_numbered f (n + 1) xs i ∙ ap (λ k. option_map (f k) (slice_get xs i)) e

-- the row of a number
pub at_number-map_numbered : {X Y : Type 0} (f : ℕ → X → Y) (xs : List X) (i : ℕ) → at_number (map_numbered f 1 xs) i ≡ option_map (f i) (at_number xs i)
at_number-map_numbered f xs zero = refl
at_number-map_numbered f xs (suc i) =
    let e : 1 + i ≡ suc i = omega arith in
    slice_get-map_numbered f 1 xs i ∙ ap (λ k. option_map (f k) (slice_get xs i)) e

pub length-map_numbered : {X Y : Type 0} (f : ℕ → X → Y) (n : ℕ) (xs : List X) → length (map_numbered f n xs) ≡ length xs
length-map_numbered f n [] = refl
length-map_numbered f n (x ∷ xs) = ap (λ k. suc k) (length-map_numbered f (n + 1) xs)

-- ---- who is there

slice_get-beyond : {X : Type 0} (xs : List X) (i : ℕ) → length xs ≤ i → slice_get xs i ≡ None
slice_get-beyond [] i h = refl
slice_get-beyond (x ∷ xs) zero h = absurd (let bad : suc (length xs) ≤ 0 = h in omega (arith, bad))
slice_get-beyond (x ∷ xs) (suc i) h = slice_get-beyond xs i (omega (arith, h))

-- past the last there is none
pub at_number-beyond : {X : Type 0} (xs : List X) (i : ℕ) → length xs < i → at_number xs i ≡ None
at_number-beyond xs zero h = refl
at_number-beyond xs (suc i) h = slice_get-beyond xs i (omega (arith, h))

slice_get-more : {X : Type 0} (xs ys : List X) (i : ℕ) (x : X) → slice_get xs i ≡ Some x → slice_get (xs ++ ys) i ≡ Some x
slice_get-more [] ys i x h = absurd (cc)
slice_get-more (y ∷ xs) ys zero x h = h
slice_get-more (y ∷ xs) ys (suc i) x h = slice_get-more xs ys i x h

-- one that is there stays, with more behind it
pub at_number-more : {X : Type 0} (xs ys : List X) (i : ℕ) (x : X) → at_number xs i ≡ Some x → at_number (xs ++ ys) i ≡ Some x
at_number-more xs ys zero x h = absurd (cc)
at_number-more xs ys (suc i) x h = slice_get-more xs ys i x h

-- a value is not none
pub not_none : {X : Type 0} (o : Option X) (x : X) → o ≡ Some x → o ≡ None → ⊥
not_none None x h k = cc
not_none (Some y) x h k = cc

-- one that is not there with more was not there before
pub at_number-before : {X : Type 0} (xs ys : List X) (i : ℕ) → at_number (xs ++ ys) i ≡ None → at_number xs i ≡ None
at_number-before xs ys i h = by_case (at_number xs i) refl
  where
    by_case : (o : Option _) → at_number xs i ≡ o → o ≡ None
    by_case None e = refl
    by_case (Some x) e = absurd (not_none (at_number (xs ++ ys) i) x (at_number-more xs ys i x e) h)

pub at_number-before-added : {X : Type 0} (xs : List X) (o : Option X) (i : ℕ) → at_number (added xs o) i ≡ None → at_number xs i ≡ None
at_number-before-added xs None i h = h
at_number-before-added xs (Some x) i h = at_number-before xs (x ∷ []) i h
