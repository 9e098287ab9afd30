use Rattle.std.proofs.Common.{◌≡◌, ℕ, zero, suc, ◌+◌, ◌<◌, ◌≤◌, List, [], ◌∷◌, length, Bool, true, false, cond, Some, refl, sym, ap, ◌∙◌, arith, get_or, set}
use Rattle.std.specs.Prelude.{nat_eq, slice_get, map, option_map, is_some, IsSome}
use Rattle.std.proofs.lemmas.Bool.{false≢true}
use Rattle.std.proofs.lemmas.Bool.Decides.{nat_tests}
use Rattle.ocm_rules.specs.Numbers.{at_number}
use Rattle.ocm_rules.specs.State.{map_numbered, changed_at}
use Rattle.ocm_outgoing.specs.declared.rows.Sent.{Sent}
use Rattle.ocm_outgoing.specs.Lists.{settled_row}
use Rattle.ocm_outgoing.specs.Threads.{row_of, rows_of, marked, linked}

-- the change of the one of number i, at number j
abbrev pub at_one : {X : Type 0} → ℕ → (X → X) → ℕ → X → X
at_one i change j x = cond (nat_eq i j) (change x) x

unchanged : {X : Type 0} (i : ℕ) (change : X → X) (n : ℕ) (xs : List X) → i < n → map_numbered (at_one i change) n xs ≡ xs
unchanged i change n [] h = refl
unchanged i change n (x ∷ xs) h =
    let other : nat_eq i n ≡ false = grind (arith, nat_tests) in
    rw other (ap (λ rest. x ∷ rest) (unchanged i change (n + 1) xs (omega arith)))

set-changed : {X : Type 0} (i : ℕ) (change : X → X) (n k : ℕ) (xs : List X) (d x : X) → i ≡ n + k → k < length xs → x ≡ change (get_or xs k d) → set xs k x ≡ map_numbered (at_one i change) n xs
set-changed i change n k [] d x e h is = absurd (omega arith)
set-changed i change n zero (y ∷ ys) d x e h is =
    let same : nat_eq i n ≡ true = grind (arith, nat_tests) in
    rw (same, is) (ap (λ rest. change y ∷ rest) (sym (unchanged i change (n + 1) ys (omega arith))))
set-changed i change n (suc k) (y ∷ ys) d x e h is =
    let other : nat_eq i n ≡ false = grind (arith, nat_tests) in
    rw other (ap (λ rest. y ∷ rest) (set-changed i change (n + 1) k ys d x (omega arith) (omega arith) is))

-- a number at which there is one is within the list
pub number_within : {X : Type 0} (xs : List X) (i : ℕ) → is_some (at_number xs i) ≡ true → (0 < i) × (i ≤ length xs)
number_within xs zero e = absurd (false≢true e)
number_within [] (suc i) e = absurd (false≢true e)
number_within (y ∷ ys) (suc zero) e = (omega arith, omega arith)
number_within (y ∷ ys) (suc (suc i)) e = let rest = number_within ys (suc i) e in (omega arith, omega (arith, rest.1))

-- the same, as a condition says it
pub number_in : {X : Type 0} (xs : List X) (i : ℕ) → IsSome (at_number xs i) → (0 < i) × (i ≤ length xs)
number_in xs i there = number_within xs i (grind (arith, there))

slice_get-numbered : {X : Type 0} (g : ℕ → X → X) (n : ℕ) (xs : List X) (k j : ℕ) → j ≡ n + k → slice_get (map_numbered g n xs) k ≡ option_map (g j) (slice_get xs k)
slice_get-numbered g n [] zero j e = refl
slice_get-numbered g n [] (suc k) j e = refl
slice_get-numbered g n (x ∷ xs) zero j e = let same : n ≡ j = omega arith in ap (λ m. Some (g m x)) same
slice_get-numbered g n (x ∷ xs) (suc k) j e = slice_get-numbered g (n + 1) xs k j (omega arith)

-- the one of a number after a change
pub at_number-changed : {X : Type 0} (i : ℕ) (change : X → X) (xs : List X) (k : ℕ) → at_number (changed_at i change xs) k ≡ option_map (at_one i change k) (at_number xs k)
at_number-changed i change xs zero = refl
at_number-changed i change xs (suc k) = slice_get-numbered (at_one i change) 1 xs k (suc k) (omega arith)

length-numbered : {X : Type 0} (g : ℕ → X → X) (n : ℕ) (xs : List X) → length (map_numbered g n xs) ≡ length xs
length-numbered g n [] = refl
length-numbered g n (x ∷ xs) = ap suc (length-numbered g (n + 1) xs)

-- a change keeps the length
pub length-changed : {X : Type 0} (i : ℕ) (change : X → X) (xs : List X) → length (changed_at i change xs) ≡ length xs
length-changed i change xs = length-numbered (at_one i change) 1 xs

-- a write at a place is a change of one number
pub written : {X : Type 0} (i : ℕ) (change : X → X) (xs : List X) (k : ℕ) (d x : X) → i ≡ k + 1 → k < length xs → x ≡ change (get_or xs k d) → set xs k x ≡ changed_at i change xs
written i change xs k d x e h is = set-changed i change 1 k xs d x (omega arith) h is

pub map-numbered : {X Y : Type 0} (f : X → Y) (g : ℕ → X → X) (h : ℕ → Y → Y) → ((j : ℕ) (x : X) → f (g j x) ≡ h j (f x)) → (n : ℕ) (xs : List X) → map f (map_numbered g n xs) ≡ map_numbered h n (map f xs)
map-numbered f g h e n [] = refl
map-numbered {X} {Y} f g h e n (x ∷ xs) = ap (λ y. y ∷ map f (map_numbered g (n + 1) xs)) (e n x) ∙ ap (λ ys. h n (f x) ∷ ys) (map-numbered f g h e (n + 1) xs)

pub same-numbered : {Y : Type 0} (n : ℕ) (ys : List Y) → map_numbered (λ j y. y) n ys ≡ ys
same-numbered n [] = refl
same-numbered n (y ∷ ys) = ap (λ rest. y ∷ rest) (same-numbered (n + 1) ys)

row_of-linked : (b : Bool) (next : ℕ) (row : Sent) → row_of (cond b (linked next row) row) ≡ row_of row
row_of-linked true next row = refl
row_of-linked false next row = refl

-- links are not seen
pub rows_of-linked : (i next : ℕ) (rows : List Sent) → rows_of (changed_at i (linked next) rows) ≡ rows_of rows
rows_of-linked i next rows = map-numbered row_of (at_one i (linked next)) (λ j row. row) (λ j row. row_of-linked (nat_eq i j) next row) 1 rows ∙ same-numbered 1 (rows_of rows)

row_of-marked : (b : Bool) (row : Sent) → row_of (cond b (marked row) row) ≡ cond b (settled_row (row_of row)) (row_of row)
row_of-marked true row = refl
row_of-marked false row = refl

-- a mark is seen
pub rows_of-marked : (i : ℕ) (rows : List Sent) → rows_of (changed_at i marked rows) ≡ changed_at i settled_row (rows_of rows)
rows_of-marked i rows = map-numbered row_of (at_one i marked) (at_one i settled_row) (λ j row. row_of-marked (nat_eq i j) row) 1 rows

head-same : {X : Type 0} (b : Bool) (change : X → X) (x : X) → (b ≡ true → change x ≡ x) → cond b (change x) x ≡ x
head-same true change x h = h refl
head-same false change x h = refl

numbered-same : {X : Type 0} (i : ℕ) (change : X → X) (n : ℕ) (xs : List X) → ((k : ℕ) (x : X) → slice_get xs k ≡ Some x → i ≡ n + k → change x ≡ x) → map_numbered (at_one i change) n xs ≡ xs
numbered-same i change n [] h = refl
numbered-same i change n (x ∷ xs) h =
    ap (λ y. y ∷ map_numbered (at_one i change) (n + 1) xs) (head-same (nat_eq i n) change x (λ e. h 0 x refl (grind (arith, nat_tests))))
    ∙ ap (λ ys. x ∷ ys) (numbered-same i change (n + 1) xs (λ k y e is. h (suc k) y e (omega arith)))

-- a change that changes nothing
pub changed-same : {X : Type 0} (i : ℕ) (change : X → X) (xs : List X) → ((x : X) → at_number xs i ≡ Some x → change x ≡ x) → changed_at i change xs ≡ xs
changed-same {X} i change xs h = numbered-same i change 1 xs at
  where
    at_suc : (k : ℕ) → slice_get xs k ≡ at_number xs (suc k)
    at_suc k = refl

    at : (k : ℕ) (x : X) → slice_get xs k ≡ Some x → i ≡ 1 + k → change x ≡ x
    at k x e is = let same : i ≡ suc k = omega arith in h x (ap (at_number xs) same ∙ e)
