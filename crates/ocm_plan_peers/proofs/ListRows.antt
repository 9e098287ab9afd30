use Rattle.std.proofs.Common.{◌≡◌, ℕ, zero, suc, List, map, length, Bool, true, false, Option, Some, None, refl, sym, ◌∙◌, arith, eqb-true, if◌then◌else◌, nat_eq, nat_lt, option_map}
use Rattle.std.specs.Prelude.{IsSome}
use Rattle.std.proofs.lemmas.Bool.Decides.{nat_tests}
use Rattle.std.proofs.lemmas.Option.{slice_get-map}
use Rattle.ocm_rules.specs.Numbers.{at_number, number_of}
use Rattle.ocm_rules.specs.State.{changed_at}
use Rattle.ocm_rules.proofs.Lists.{number_of-within}
use Rattle.ocm_rules.proofs.Searches.{map_numbered-there}
use Rattle.ocm_rules.proofs.Steps.{map_numbered-same}

-- a part of the row of a number
pub row-part : {X Y : Type 0} (f : X → Y) (xs : List X) (n : ℕ) → at_number (map f xs) n ≡ option_map f (at_number xs n)
row-part f xs zero = refl
row-part f xs (suc i) = slice_get-map f xs i

there-part : {X Y : Type 0} (f : X → Y) (o : Option X) (y : Y) → option_map f o ≡ Some y → (x : X) × (o ≡ Some x) × (f x ≡ y)
there-part f None y e = absurd (cc)
there-part f (Some x) y e = let same : f x ≡ y = cc in (x, refl, same)

-- the row of a number, where a part of it is there
pub row-there : {X Y : Type 0} (f : X → Y) (xs : List X) (n : ℕ) (y : Y) → at_number (map f xs) n ≡ Some y → (x : X) × (at_number xs n ≡ Some x) × (f x ≡ y)
row-there f xs n y e = there-part f (at_number xs n) y (sym (row-part f xs n) ∙ e)

some-is : {X : Type 0} (o : Option X) (x : X) → o ≡ Some x → IsSome o
some-is o x e = rw e refl

-- there is one
pub is-there : {X : Type 0} (xs : List X) (n : ℕ) (x : X) → at_number xs n ≡ Some x → IsSome (at_number xs n)
is-there xs n x e = some-is (at_number xs n) x e

pub is-row : {X Y : Type 0} (f : X → Y) (xs : List X) (n : ℕ) (y : Y) → at_number (map f xs) n ≡ Some y → IsSome (at_number xs n)
is-row f xs n y e = let row = row-there f xs n y e in is-there xs n row.0 row.1

-- two changes that are the same at the row of a number
pub changed_at-alike : {X : Type 0} (n : ℕ) (f g : X → X) (xs : List X) → ((x : X) → at_number xs n ≡ Some x → f x ≡ g x) → changed_at n f xs ≡ changed_at n g xs
changed_at-alike {X} n f g xs same = map_numbered-there (λ j x. if nat_eq n j then f x else x) (λ j x. if nat_eq n j then g x else x) xs (λ j x there. by_test j x there (nat_eq n j) refl)
  where
    by_test : (j : ℕ) (x : X) → at_number xs j ≡ Some x → (b : Bool) → nat_eq n j ≡ b → (if b then f x else x) ≡ (if b then g x else x)
    by_test j x there true e = let here : n ≡ j = eqb-true n j e in same x (rw here there)
    by_test j x there false e = refl

same-if : {X : Type 0} (b : Bool) (x : X) → (if b then x else x) ≡ x
same-if true x = refl
same-if false x = refl

-- a change of nothing
pub changed_at-none : {X : Type 0} (n : ℕ) (f : X → X) (xs : List X) → ((x : X) → at_number xs n ≡ Some x → f x ≡ x) → changed_at n f xs ≡ xs
changed_at-none n f xs same = changed_at-alike n f (λ x. x) xs same ∙ map_numbered-same (λ j x. if nat_eq n j then x else x) 1 xs (λ j x. same-if (nat_eq n j) x)

-- the number of one that was found is no later than the last
pub found-before : {X : Type 0} (p : X → Bool) (xs : List X) (n : ℕ) → number_of p xs ≡ Some n → nat_lt (length xs) n ≡ false
found-before p xs n e = let within = number_of-within p xs n e in grind (arith, nat_tests)
