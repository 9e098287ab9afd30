use Rattle.std.proofs.Common.{◌≡◌, ℕ, zero, suc, ◌+◌, ◌-◌, ◌<◌, List, [], ◌∷◌, length, get_or, refl, ap, arith, true, false, cond}
use Rattle.std.proofs.Math.ListN.{set}
use Rattle.std.specs.Prelude.{nat_eq, slice_get, IsSome}
use Rattle.std.proofs.lemmas.Bool.Decides.{nat_tests}
use Rattle.ocm_rules.specs.Numbers.{at_number}
use Rattle.ocm_rules.specs.State.{map_numbered, changed_at}

-- a change of an earlier one leaves these
unchanged-before : {X : Type 0} (n k : ℕ) (change : X → X) (xs : List X) → n < k → map_numbered (λ j x. cond (nat_eq n j) (change x) x) k xs ≡ xs
unchanged-before n k change [] h = refl
unchanged-before n k change (x ∷ xs) h =
    let other : nat_eq n k ≡ false = grind (arith, nat_tests) in
    let rest = unchanged-before n (k + 1) change xs (omega (arith, h)) in
    rw (other, rest) refl

-- a write at a place, where the first has the number k
set-from : {X : Type 0} (xs : List X) (i n k : ℕ) (change : X → X) (y d : X) → i + k ≡ n → i < length xs → y ≡ change (get_or xs i d) → set xs i y ≡ map_numbered (λ j x. cond (nat_eq n j) (change x) x) k xs
set-from [] i n k change y d e h f = refl
set-from (x ∷ xs) zero n k change y d e h f =
    let same : nat_eq n k ≡ true = grind (arith, nat_tests) in
    let before : n < k + 1 = omega (arith, e) in
    let rest = unchanged-before n (k + 1) change xs before in
    rw (same, rest) (ap (λ z. z ∷ xs) f)
set-from (x ∷ xs) (suc i) n k change y d e h f =
    let other : nat_eq n k ≡ false = grind (arith, nat_tests) in
    let rest = set-from xs i n (k + 1) change y d (omega (arith, e)) (omega (arith, h)) f in
    rw (other, rest) refl

-- what is written at a place stands at its number, and nothing else changes
pub set-changed : {X : Type 0} (xs : List X) (i n : ℕ) (change : X → X) (y d : X) → i + 1 ≡ n → i < length xs → y ≡ change (get_or xs i d) → set xs i y ≡ changed_at n change xs
set-changed xs i n change y d e h f = set-from xs i n 1 change y d e h f

get-within : {X : Type 0} (xs : List X) (i : ℕ) → IsSome (slice_get xs i) → i < length xs
get-within [] i h = absurd (cc)
get-within (x ∷ xs) zero h = omega arith
get-within (x ∷ xs) (suc i) h = let rest = get-within xs i h in omega (arith, rest)

-- what is there has a number from 1 on, and a place in the list
pub number-within : {X : Type 0} (xs : List X) (n : ℕ) → IsSome (at_number xs n) → (n - 1 + 1 ≡ n) × (n - 1 < length xs)
number-within xs zero h = absurd (cc)
number-within xs (suc i) h =
    let within = get-within xs i h in
    (omega arith, omega (arith, within))
