-- Sums over numbered rows: what the rows of a list count, before and after an entry.
use Rattle.std.proofs.Common.{◌≡◌, ℕ, zero, suc, ◌+◌, ◌≤◌, List, [], ◌∷◌, ◌++◌, length, refl, subst, arith}
use Rattle.std.specs.Prelude.{Option, Some, None, slice_get}
use Rattle.std.specs.List.{range_with_len}
use Rattle.std.specs.Option.{option_map_or}
use Rattle.std.proofs.lemmas.List.FromFn.{length-range_with_len}
use Rattle.ocm_rules.specs.Numbers.{added, at_number, numbers}
use Rattle.ocm_rules.specs.State.{map_numbered}
use Rattle.ocm_law_counts.specs.Counts.{total}

-- the sum of what each row counts
abbrev pub counted : {X : Type 0} → (X → ℕ) → List X → ℕ
counted f [] = 0
counted f (x ∷ xs) = f x + counted f xs

-- ---- rows that are there

-- what is said of the row of each number is said from any number on
abbrev From : {X : Type 0} → (ℕ → X → Type 0) → ℕ → List X → Type 0
From {X} P n xs = (i : ℕ) (x : X) → slice_get xs i ≡ Some x → P (n + i) x

from-first : {X : Type 0} (P : ℕ → X → Type 0) (n : ℕ) (x : X) (xs : List X) → From P n (x ∷ xs) → P n x
from-first P n x xs h = let e : n + 0 ≡ n = omega arith in subst (λ k. P k x) e (h 0 x refl)

from-rest : {X : Type 0} (P : ℕ → X → Type 0) (n : ℕ) (x : X) (xs : List X) → From P n (x ∷ xs) → From P (n + 1) xs
from-rest P n x xs h i y there = let e : n + suc i ≡ n + 1 + i = omega arith in subst (λ k. P k y) e (h (suc i) y there)

from-one : {X : Type 0} (P : ℕ → X → Type 0) (xs : List X) → ((j : ℕ) (x : X) → at_number xs j ≡ Some x → P j x) → From P 1 xs
from-one P xs h i x there = let e : suc i ≡ 1 + i = omega arith in subst (λ k. P k x) e (h (suc i) x there)

-- ---- sums

total-from : {X Y : Type 0} (count : ℕ → ℕ) (f : Y → ℕ) (row : ℕ → X → Y) (n : ℕ) (xs : List X) → From (λ j x. count j ≡ f (row j x)) n xs
    → total count (range_with_len n (length xs)) ≡ counted f (map_numbered row n xs)
total-from count f row n [] h = refl
total-from {X} count f row n (x ∷ xs) h =
    let P : ℕ → X → Type 0 = λ j y. count j ≡ f (row j y) in
    let first : count n ≡ f (row n x) = from-first P n x xs h in
    let rest = total-from count f row (n + 1) xs (from-rest P n x xs h) in
    rw (first, rest) refl

-- what is counted for each number is what its row counts
pub total-rows : {X Y : Type 0} (count : ℕ → ℕ) (f : Y → ℕ) (row : ℕ → X → Y) (xs : List X) → ((j : ℕ) (x : X) → at_number xs j ≡ Some x → count j ≡ f (row j x))
    → total count (numbers xs) ≡ counted f (map_numbered row 1 xs)
total-rows count f row xs h = total-from count f row 1 xs (from-one (λ j x. count j ≡ f (row j x)) xs h)

grows-from : {X Y : Type 0} (f : Y → ℕ) (row : ℕ → X → Y) (after : ℕ → Y → Y) (n : ℕ) (xs : List X) → From (λ j x. f (row j x) ≤ f (after j (row j x))) n xs
    → counted f (map_numbered row n xs) ≤ counted f (map_numbered after n (map_numbered row n xs))
grows-from f row after n [] h = omega arith
grows-from {X} f row after n (x ∷ xs) h =
    let P : ℕ → X → Type 0 = λ j y. f (row j y) ≤ f (after j (row j y)) in
    let first = from-first P n x xs h in
    let rest = grows-from f row after (n + 1) xs (from-rest P n x xs h) in
    omega arith

-- where no row counts less, they count no less together
pub counted-grows : {X Y : Type 0} (f : Y → ℕ) (row : ℕ → X → Y) (after : ℕ → Y → Y) (xs : List X) → ((j : ℕ) (x : X) → at_number xs j ≡ Some x → f (row j x) ≤ f (after j (row j x)))
    → counted f (map_numbered row 1 xs) ≤ counted f (map_numbered after 1 (map_numbered row 1 xs))
counted-grows f row after xs h = grows-from f row after 1 xs (from-one (λ j x. f (row j x) ≤ f (after j (row j x))) xs h)

one-from : {X Y : Type 0} (f : Y → ℕ) (row : ℕ → X → Y) (after : ℕ → Y → Y) (n : ℕ) (xs : List X) → From (λ j x. f (row j x) ≤ f (after j (row j x))) n xs
    → (i : ℕ) (x : X) → slice_get xs i ≡ Some x → f (row (n + i) x) + 1 ≤ f (after (n + i) (row (n + i) x))
    → counted f (map_numbered row n xs) + 1 ≤ counted f (map_numbered after n (map_numbered row n xs))
one-from f row after n [] h i x there more = absurd (cc)
one-from {X} f row after n (y ∷ xs) h zero x there more =
    let P : ℕ → X → Type 0 = λ j z. f (row j z) ≤ f (after j (row j z)) in
    let Q : ℕ → X → Type 0 = λ j z. f (row j z) + 1 ≤ f (after j (row j z)) in
    let same : x ≡ y = cc in
    let e : n + 0 ≡ n = omega arith in
    let first : Q n y = subst (λ k. Q k y) e (subst (Q (n + 0)) same more) in
    let rest = grows-from f row after (n + 1) xs (from-rest P n y xs h) in
    omega arith
one-from {X} f row after n (y ∷ xs) h (suc i) x there more =
    let P : ℕ → X → Type 0 = λ j z. f (row j z) ≤ f (after j (row j z)) in
    let Q : ℕ → X → Type 0 = λ j z. f (row j z) + 1 ≤ f (after j (row j z)) in
    let e : n + suc i ≡ n + 1 + i = omega arith in
    let first = from-first P n y xs h in
    let rest = one-from f row after (n + 1) xs (from-rest P n y xs h) i x there (subst (λ k. Q k x) e more) in
    omega arith

-- and more by one where the row of this number counts more
one-more : {X Y : Type 0} (f : Y → ℕ) (row : ℕ → X → Y) (after : ℕ → Y → Y) (xs : List X) → ((j : ℕ) (x : X) → at_number xs j ≡ Some x → f (row j x) ≤ f (after j (row j x)))
    → (j : ℕ) (x : X) → at_number xs j ≡ Some x → f (row j x) + 1 ≤ f (after j (row j x))
    → counted f (map_numbered row 1 xs) + 1 ≤ counted f (map_numbered after 1 (map_numbered row 1 xs))
one-more f row after xs h zero x there more = absurd (cc)
one-more {X} f row after xs h (suc i) x there more =
    let Q : ℕ → X → Type 0 = λ j z. f (row j z) + 1 ≤ f (after j (row j z)) in
    let e : suc i ≡ 1 + i = omega arith in
    one-from f row after 1 xs (from-one (λ j z. f (row j z) ≤ f (after j (row j z))) xs h) i x there (subst (λ k. Q k x) e more)

-- rows count more by what is sent about the one of this number: one message at most, and none where it is not there
pub counted-sent : {X Y : Type 0} (f : Y → ℕ) (row : ℕ → X → Y) (after : ℕ → Y → Y) (xs : List X) → ((j : ℕ) (x : X) → at_number xs j ≡ Some x → f (row j x) ≤ f (after j (row j x)))
    → (j sent : ℕ) → sent ≤ 1 → (at_number xs j ≡ None → sent ≡ 0) → ((x : X) → at_number xs j ≡ Some x → f (row j x) + 1 ≤ f (after j (row j x)))
    → counted f (map_numbered row 1 xs) + sent ≤ counted f (map_numbered after 1 (map_numbered row 1 xs))
counted-sent {X} f row after xs h j sent few none more = by_row (at_number xs j) refl
  where
    by_row : (o : Option X) → at_number xs j ≡ o → counted f (map_numbered row 1 xs) + sent ≤ counted f (map_numbered after 1 (map_numbered row 1 xs))
    by_row None e = let nothing = none e in let grown = counted-grows f row after xs h in omega arith
    by_row (Some x) e = let grown = one-more f row after xs h j x e (more x e) in omega arith

counted-next : {X : Type 0} (f : X → ℕ) (xs : List X) (x : X) → counted f (xs ++ x ∷ []) ≡ counted f xs + f x
counted-next f [] x = omega arith
counted-next f (y ∷ xs) x = let rest = counted-next f xs x in omega arith

-- a new row counts besides
pub counted-added : {X : Type 0} (f : X → ℕ) (xs : List X) (o : Option X) → counted f (added xs o) ≡ counted f xs + option_map_or f o 0
counted-added f xs None = omega arith
counted-added f xs (Some x) = counted-next f xs x

total-most : (count : ℕ → ℕ) → ((n : ℕ) → count n ≤ 2) → (ns : List ℕ) → total count ns ≤ length ns + length ns
total-most count most [] = omega arith
total-most count most (n ∷ ns) = let one = most n in let rest = total-most count most ns in omega arith

-- where at most two are counted for each number, at most twice as many as numbers are counted
pub total-twice : {X : Type 0} (count : ℕ → ℕ) → ((n : ℕ) → count n ≤ 2) → (xs : List X) → total count (numbers xs) ≤ length xs + length xs
total-twice count most xs = let all = total-most count most (numbers xs) in let long = length-range_with_len 1 (length xs) in omega arith
