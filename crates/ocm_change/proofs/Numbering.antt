use Rattle.std.proofs.Common.{◌≡◌, ℕ, zero, suc, ◌+◌, ◌-◌, ◌<◌, List, [], ◌∷◌, refl, arith, true, false, cond}
use Rattle.std.proofs.Math.ListN.{set}
use Rattle.std.specs.Prelude.{nat_eq, IsSome}
use Rattle.std.proofs.lemmas.Bool.Decides.{nat_tests}
use Rattle.ocm_rules.specs.Numbers.{at_number}
use Rattle.ocm_rules.specs.State.{map_numbered, changed_at}

-- what is there has a number from 1 on
pub number-from-one : {X : Type 0} (xs : List X) (n : ℕ) → IsSome (at_number xs n) → n - 1 + 1 ≡ n
number-from-one xs zero h = absurd (cc)
number-from-one xs (suc i) h = omega arith

-- a change of an earlier one leaves these
unchanged-before : {X : Type 0} (n k : ℕ) (change : X → X) (xs : List X) → n < k → map_numbered (λ j x. cond (nat_eq n j) (change x) x) k xs ≡ xs
unchanged-before n k change [] h = refl
unchanged-before n k change (x ∷ xs) h =
    let other : nat_eq n k ≡ false = grind (arith, nat_tests) in
    let rest = unchanged-before n (k + 1) change xs (omega (arith, h)) in
    rw (other, rest) refl

-- a write at a place, where the first has the number k
set-from : {X : Type 0} (xs : List X) (i n k : ℕ) (change : X → X) (y : X) → i + k ≡ n → ((d : X) → change d ≡ y) → set xs i y ≡ map_numbered (λ j x. cond (nat_eq n j) (change x) x) k xs
set-from [] i n k change y e h = refl
set-from (x ∷ xs) zero n k change y e h =
    let same : nat_eq n k ≡ true = grind (arith, nat_tests) in
    let before : n < k + 1 = omega (arith, e) in
    let rest = unchanged-before n (k + 1) change xs before in
    let new = h x in
    rw (same, rest, new) refl
set-from (x ∷ xs) (suc i) n k change y e h =
    let other : nat_eq n k ≡ false = grind (arith, nat_tests) in
    let rest = set-from xs i n (k + 1) change y (omega (arith, e)) h in
    rw (other, rest) refl

-- what is written at a place stands at its number, and nothing else changes
pub set-number : {X : Type 0} (xs : List X) (i n : ℕ) (y : X) → i + 1 ≡ n → set xs i y ≡ changed_at n (λ x. y) xs
set-number xs i n y e = set-from xs i n 1 (λ x. y) y e (λ d. refl)
