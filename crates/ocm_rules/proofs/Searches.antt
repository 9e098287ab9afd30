use Rattle.std.proofs.Common.{◌≡◌, ℕ, zero, suc, ◌+◌, ◌<◌, ◌≤◌, List, [], ◌∷◌, ◌++◌, length, Bool, true, false, ◌||◌, refl, sym, ap, subst, ◌∙◌, arith}
use Rattle.std.specs.Prelude.{Some, None, slice_get, if◌then◌else◌}
use Rattle.std.specs.List.{list_any}
use Rattle.ocm_rules.specs.Numbers.{at_number, number_of, number_from}
use Rattle.ocm_rules.specs.State.{map_numbered}
use Rattle.ocm_rules.proofs.Lists.{not_both}

-- neither of two tests passes where one of both at once does not
pub neither : (a b : Bool) → (a || b) ≡ false → (a ≡ false) × (b ≡ false)
neither true b h = absurd (cc)
neither false b h = (refl, h)

pub or-false : (b : Bool) → (b || false) ≡ b
or-false true = refl
or-false false = refl

pub some-same : {X : Type 0} (x y : X) → Some x ≡ Some y → x ≡ y
some-same x y h = cc

-- ---- the first that passes, among more

number_from-absent : {X : Type 0} (p : X → Bool) (n : ℕ) (xs : List X) → list_any p xs ≡ false → number_from p n xs ≡ None
number_from-absent p n [] h = refl
number_from-absent p n (x ∷ xs) h = let both = neither (p x) (list_any p xs) h in rw (both.0, number_from-absent p (n + 1) xs both.1) refl

-- where none passes there is no number
pub number_of-absent : {X : Type 0} (p : X → Bool) (xs : List X) → list_any p xs ≡ false → number_of p xs ≡ None
number_of-absent p xs h = number_from-absent p 1 xs h

number_from-more : {X : Type 0} (p : X → Bool) (n : ℕ) (xs ys : List X) → list_any p ys ≡ false → number_from p n (xs ++ ys) ≡ number_from p n xs
number_from-more p n [] ys h = number_from-absent p n ys h
number_from-more p n (x ∷ xs) ys h = by_test (number_from-more p (n + 1) xs ys h) (p x)
  where
    by_test : number_from p (n + 1) (xs ++ ys) ≡ number_from p (n + 1) xs → (b : Bool) → (if b then Some n else number_from p (n + 1) (xs ++ ys)) ≡ (if b then Some n else number_from p (n + 1) xs)
    by_test rest true = refl
    by_test rest false = rest

-- those behind change nothing where none of them passes
pub number_of-more : {X : Type 0} (p : X → Bool) (xs ys : List X) → list_any p ys ≡ false → number_of p (xs ++ ys) ≡ number_of p xs
number_of-more p xs ys h = number_from-more p 1 xs ys h

number_from-front : {X : Type 0} (p : X → Bool) (n : ℕ) (xs ys : List X) (k : ℕ) → number_from p n xs ≡ Some k → number_from p n (xs ++ ys) ≡ Some k
number_from-front p n [] ys k h = absurd (cc)
number_from-front p n (x ∷ xs) ys k h = by_test (number_from-front p (n + 1) xs ys k) (p x) h
  where
    by_test : (number_from p (n + 1) xs ≡ Some k → number_from p (n + 1) (xs ++ ys) ≡ Some k) → (b : Bool) → (if b then Some n else number_from p (n + 1) xs) ≡ Some k → (if b then Some n else number_from p (n + 1) (xs ++ ys)) ≡ Some k
    by_test rest true g = g
    by_test rest false g = rest g

number_from-next : {X : Type 0} (p : X → Bool) (n : ℕ) (xs : List X) (y : X) → list_any p xs ≡ false → p y ≡ true → number_from p n (xs ++ y ∷ []) ≡ Some (n + length xs)
number_from-next p n [] y h k = let e : n ≡ n + 0 = omega arith in rw k (ap (λ j. Some j) e)
number_from-next p n (x ∷ xs) y h k =
    let both = neither (p x) (list_any p xs) h in
    let e : n + 1 + length xs ≡ n + length (x ∷ xs) = omega arith in
    rw both.0 (number_from-next p (n + 1) xs y both.1 k ∙ ap (λ j. Some j) e)

-- one that passes, behind those that do not, has the next number
pub number_of-next : {X : Type 0} (p : X → Bool) (xs : List X) (y : X) → list_any p xs ≡ false → p y ≡ true → number_of p (xs ++ y ∷ []) ≡ Some (length xs + 1)
number_of-next p xs y h k = let e : 1 + length xs ≡ length xs + 1 = omega arith in number_from-next p 1 xs y h k ∙ ap (λ j. Some j) e

-- ---- the one of a number

slice_get-absent : {X : Type 0} (p : X → Bool) (xs : List X) (i : ℕ) (x : X) → list_any p xs ≡ false → slice_get xs i ≡ Some x → p x ≡ false
slice_get-absent p [] i x h g = absurd (cc)
slice_get-absent p (y ∷ xs) zero x h g = let both = neither (p y) (list_any p xs) h in rw (sym (some-same y x g)) both.0
slice_get-absent p (y ∷ xs) (suc i) x h g = slice_get-absent p xs i x (neither (p y) (list_any p xs) h).1 g

-- where none passes the one of a number does not
pub at_number-absent : {X : Type 0} (p : X → Bool) (xs : List X) (j : ℕ) (x : X) → list_any p xs ≡ false → at_number xs j ≡ Some x → p x ≡ false
at_number-absent p xs zero x h g = absurd (cc)
at_number-absent p xs (suc j) x h g = slice_get-absent p xs j x h g

slice_get-front : {X : Type 0} (p : X → Bool) (xs ys : List X) (i : ℕ) (x : X) → list_any p ys ≡ false → slice_get (xs ++ ys) i ≡ Some x → p x ≡ true → slice_get xs i ≡ Some x
slice_get-front p [] ys i x h g k = absurd (not_both (p x) k (slice_get-absent p ys i x h g))
slice_get-front p (y ∷ xs) ys zero x h g k = g
slice_get-front p (y ∷ xs) ys (suc i) x h g k = slice_get-front p xs ys i x h g k

-- one that passes is not among those of whom none passes
pub at_number-front : {X : Type 0} (p : X → Bool) (xs ys : List X) (j : ℕ) (x : X) → list_any p ys ≡ false → at_number (xs ++ ys) j ≡ Some x → p x ≡ true → at_number xs j ≡ Some x
at_number-front p xs ys zero x h g k = absurd (cc)
at_number-front p xs ys (suc j) x h g k = slice_get-front p xs ys j x h g k

slice_get-last : {X : Type 0} (p : X → Bool) (xs : List X) (y : X) (i : ℕ) (x : X) → list_any p xs ≡ false → slice_get (xs ++ y ∷ []) i ≡ Some x → p x ≡ true → i ≡ length xs
slice_get-last p [] y zero x h g k = refl
slice_get-last p [] y (suc i) x h g k = absurd (cc)
slice_get-last p (z ∷ xs) y zero x h g k = absurd (not_both (p x) k (let both = neither (p z) (list_any p xs) h in rw (sym (some-same z x g)) both.0))
slice_get-last p (z ∷ xs) y (suc i) x h g k = ap (λ j. suc j) (slice_get-last p xs y i x (neither (p z) (list_any p xs) h).1 g k)

-- and behind those that do not pass it has the next number
pub at_number-last : {X : Type 0} (p : X → Bool) (xs : List X) (y : X) (j : ℕ) (x : X) → list_any p xs ≡ false → at_number (xs ++ y ∷ []) j ≡ Some x → p x ≡ true → j ≡ length xs + 1
at_number-last p xs y zero x h g k = absurd (cc)
at_number-last p xs y (suc j) x h g k = let e = slice_get-last p xs y j x h g k in omega (arith, e)

-- the one of the number of the first that passes
abbrev Found : {X : Type 0} → (X → Bool) → List X → ℕ → Type 0
Found {X} p xs i = (x : X) × (slice_get xs i ≡ Some x) × (p x ≡ true)

number_from-found : {X : Type 0} (p : X → Bool) (n : ℕ) (xs : List X) (k : ℕ) → number_from p n xs ≡ Some k → (i : ℕ) × (k ≡ n + i) × Found p xs i
number_from-found p n [] k h = absurd (cc)
number_from-found p n (x ∷ xs) k h = by_test (number_from-found p (n + 1) xs k) (p x) refl h
  where
    by_test : (number_from p (n + 1) xs ≡ Some k → (i : ℕ) × (k ≡ n + 1 + i) × Found p xs i) → (b : Bool) → p x ≡ b → (if b then Some n else number_from p (n + 1) xs) ≡ Some k → (i : ℕ) × (k ≡ n + i) × Found p (x ∷ xs) i
    by_test rest true e g = let same = some-same n k g in (0, omega (arith, same), (x, refl, e))
    by_test rest false e g = let found = rest g in (suc found.0, omega (arith, found.1), found.2)

-- the first that passes does pass
pub number_of-found : {X : Type 0} (p : X → Bool) (xs : List X) (k : ℕ) → number_of p xs ≡ Some k → (x : X) × (at_number xs k ≡ Some x) × (p x ≡ true)
number_of-found p xs k h =
    let found = number_from-found p 1 xs k h in
    let e : k ≡ suc found.0 = omega (arith, found.1) in
    (found.2.0, subst (λ j. at_number xs j ≡ Some found.2.0) (sym e) found.2.1, found.2.2)

-- ---- at most one that passes

-- one that passes is the first
abbrev pub Unique : {X : Type 0} → (X → Bool) → List X → Type 0
Unique {X} p xs = (j : ℕ) (x : X) → at_number xs j ≡ Some x → p x ≡ true → number_of p xs ≡ Some j

pub unique-more : {X : Type 0} (p : X → Bool) (xs ys : List X) → Unique p xs → list_any p ys ≡ false → Unique p (xs ++ ys)
unique-more p xs ys unique h j x g k = number_from-front p 1 xs ys j (unique j x (at_number-front p xs ys j x h g k) k)

pub unique-next : {X : Type 0} (p : X → Bool) (xs : List X) (y : X) → list_any p xs ≡ false → p y ≡ true → Unique p (xs ++ y ∷ [])
unique-next p xs y h k j x g m = number_of-next p xs y h k ∙ ap (λ i. Some i) (sym (at_number-last p xs y j x h g m))

-- ---- numbered rows of those that are there

slice_get-rows : {X Y : Type 0} (f g : ℕ → X → Y) (n : ℕ) (xs : List X) → ((i : ℕ) (x : X) → slice_get xs i ≡ Some x → f (n + i) x ≡ g (n + i) x) → map_numbered f n xs ≡ map_numbered g n xs
slice_get-rows f g n [] h = refl
slice_get-rows f g n (x ∷ xs) h =
    let here : n + 0 ≡ n = omega arith in
    let first : f n x ≡ g n x = rw here at (h 0 x refl) in
    let rest = slice_get-rows f g (n + 1) xs (λ i y e. let next : n + suc i ≡ n + 1 + i = omega arith in rw next at (h (suc i) y e)) in
    rw (first, rest) refl

-- functions that are the same at each that is there
pub map_numbered-there : {X Y : Type 0} (f g : ℕ → X → Y) (xs : List X) → ((j : ℕ) (x : X) → at_number xs j ≡ Some x → f j x ≡ g j x) → map_numbered f 1 xs ≡ map_numbered g 1 xs
map_numbered-there f g xs h = slice_get-rows f g 1 xs (λ i x e. let next : suc i ≡ 1 + i = omega arith in rw next at (h (suc i) x e))

slice_get-within : {X : Type 0} (xs : List X) (i : ℕ) (x : X) → slice_get xs i ≡ Some x → i < length xs
slice_get-within [] i x h = absurd (cc)
slice_get-within (y ∷ xs) zero x h = omega arith
slice_get-within (y ∷ xs) (suc i) x h = let below = slice_get-within xs i x h in omega (arith, below)

-- one that is there has a number up to the number of all
pub at_number-within : {X : Type 0} (xs : List X) (j : ℕ) (x : X) → at_number xs j ≡ Some x → j ≤ length xs
at_number-within xs zero x h = absurd (cc)
at_number-within xs (suc j) x h = let below = slice_get-within xs j x h in omega (arith, below)
